-- The numbered name of a memory of counts is a word.
use Rattle.std.proofs.Common.{◌≡◌, ℕ, ◌<◌, ◌≤◌, ◌^◌, true, length, refl, ◌∙◌, arith, le-leb}
use Rattle.std.specs.Prelude.{codes, decimal, nat_le}
use Rattle.std.specs.List.{list_all}
use Rattle.std.proofs.lemmas.List.{length-append}
use Rattle.std.proofs.lemmas.List.Folds.{list_all-append}
use Rattle.std.proofs.lemmas.Fmt.{length-decimal-le}
use Rattle.std.proofs.lemmas.Bool.{and_from}
use Rattle.cx_vtree.specs.Layout.{is_name_byte, is_word}
use Rattle.cx_emit.proofs.NameLaws.{digits-decimal, digits_named}
use Rattle.cx_profiling.specs.FreeNames.{profile_name}

pub profile_word : (n : ℕ) → n < 2 ^ 64 → is_word (profile_name n) ≡ true
profile_word n small =
    let long = length-append (codes "profile_") (decimal n) in
    let named : list_all is_name_byte (decimal n) ≡ true = digits_named (decimal n) (digits-decimal n small) in
    let digits : length (decimal n) ≤ 20 = length-decimal-le 20 n (omega arith) (omega (arith, small)) small in
    and_from (list_all is_name_byte (profile_name n)) (nat_le (length (profile_name n)) 255)
    (list_all-append is_name_byte (codes "profile_") (decimal n) ∙ and_from (list_all is_name_byte (codes "profile_")) (list_all is_name_byte (decimal n)) refl named)
    (le-leb (length (profile_name n)) 255 (omega (arith, long, digits)))
