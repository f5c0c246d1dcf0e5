-- Facts of what `Arrays` defines, that several crates above take.
use Rattle.std.proofs.Common.{◌≡◌, ℕ, ◌≤◌, List, Option, unwrap_or, length, ap, sym, ◌∙◌, arith}
use Rattle.std.proofs.lemmas.Option.{slice_get_past}
use Rattle.cx_bits.specs.BitVector.{BitVector}
use Rattle.cx_vtree.specs.Plain.{PlainDecl}
use Rattle.cx_vtree.specs.Meaning.{word_in}
use Rattle.cx_vnets.specs.declared.arrays.Words.{Words}
use Rattle.cx_vnets.specs.Memory.{WordsStand}
use Rattle.cx_vnets.proofs.WordLemmas.{word_in_width}

-- the zero of an array is as wide as its words
pub zero_width : (words : List ℕ → ℕ → ℕ) (decls : List PlainDecl) (name : List ℕ) (x : Words) → WordsStand words decls name x → x.zero.width ≡ (word_in words decls name 0).width
zero_width words decls name x stand =
    let past : length x.words.items ≤ length x.words.items = omega arith in
    ap (λ (o : Option BitVector). (unwrap_or o x.zero).width) (sym (slice_get_past x.words.items (length x.words.items) past))
    ∙ ap (λ (b : BitVector). b.width) (stand.each (length x.words.items))
    ∙ word_in_width decls words words name (length x.words.items) 0
