-- A file's tokens have one tree, and it is the one that is read.
use Rattle.std.proofs.Common.{◌≡◌, ℕ, List, [], Ok, refl, sym, ap, ◌∙◌}
use Rattle.cx_ast.specs.declared.tokens.Token.{Token}
use Rattle.cx_ast.specs.PlainTree.{PlainTree}
use Rattle.cx_grammar.specs.Calyx.{file, nested_at, spelled_within}
use Rattle.cx_grammar.specs.Grammar.{Spells}
use Rattle.cx_grammar.specs.Parsing.{Parse}
use Rattle.cx_grammar.specs.Reading.{read}
use Rattle.cx_grammar.proofs.Shorter.{nested_shorter, ok_same}
use Rattle.cx_grammar.proofs.Sound.{read_sound, nested_sound}
use Rattle.cx_grammar.proofs.Complete.{read_complete, nested_opens, nested_complete}
use Rattle.cx_grammar.proofs.Known.{plain_file}

pub file_sound : (levels : ℕ) (ts : List Token) (tree : PlainTree) (rest : List Token) → read (nested_at levels) file ts ≡ Ok (tree, rest) → Spells (spelled_within levels) file ts tree rest
file_sound levels ts tree rest e = read_sound (nested_at levels) (spelled_within levels) (nested_sound levels) file ts (tree, rest) e

pub file_complete : (levels : ℕ) (ts : List Token) (tree : PlainTree) → Spells (spelled_within levels) file ts tree [] → read (nested_at levels) file ts ≡ Ok (tree, [])
file_complete levels ts tree s = read_complete (nested_at levels) (nested_shorter levels) (spelled_within levels) (nested_opens levels) (nested_complete levels) file plain_file ts tree [] s refl

pub parse_sound : (ts : List Token) (tree : PlainTree) → read (nested_at 64) file ts ≡ Ok (tree, []) → Parse ts tree
unfolding Parse
parse_sound ts tree e = file_sound 64 ts tree [] e

pub parse_complete : (ts : List Token) (tree : PlainTree) → Parse ts tree → read (nested_at 64) file ts ≡ Ok (tree, [])
unfolding Parse
parse_complete ts tree s = file_complete 64 ts tree s

-- one tree at most
pub one_tree : (ts : List Token) (a b : PlainTree) → Parse ts a → Parse ts b → a ≡ b
one_tree ts a b x y =
    let same : (let p : PlainTree × List Token = (a, []) in p ≡ (b, [])) = ok_same (sym (parse_complete ts a x) ∙ parse_complete ts b y) in
    ap (λ (p : PlainTree × List Token). p.0) same
