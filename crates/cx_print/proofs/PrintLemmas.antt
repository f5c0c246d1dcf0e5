-- From the tokens of a tree to the tree.
use Rattle.std.proofs.Common.{◌≡◌, ℕ, List, [], ◌∷◌, ◌∙◌, refl, sym, subst, append-nil}
use Rattle.cx_ast.specs.declared.tokens.Token.{Token}
use Rattle.cx_ast.specs.PlainTokens.{kinds_of}
use Rattle.cx_ast.specs.PlainTree.{PlainTree}
use Rattle.cx_grammar.specs.Grammar.{Spells}
use Rattle.cx_grammar.specs.Calyx.{file, spelled_within}
use Rattle.cx_grammar.specs.Parsing.{Parse}
use Rattle.cx_print.specs.Layout.{AreWritable, AppendsTokens}
use Rattle.cx_print.specs.Pieces.{tokens_of}
use Rattle.cx_print.specs.Places.{without_places}
use Rattle.cx_print.specs.Printable.{IsPrintable}
use Rattle.cx_print.specs.Printed.{AppendsTree}
use Rattle.cx_print.proofs.FileSpelling.{tree_added}

-- the tokens of a printable tree can be written
pub tokens_writable : (tree : PlainTree) → IsPrintable tree → AreWritable (tokens_of tree)
tokens_writable tree h = let a = tree_added tree h in subst AreWritable (sym (a.added [])) a.writable

pub no_tokens : (ts : List Token) → kinds_of ts ≡ [] → ts ≡ []
no_tokens [] e = refl
no_tokens (t ∷ ts) e = absurd (cc)

record ReadAgain (tree : PlainTree) (tokens : List Token) : Type 0 where
  pub again : PlainTree
  pub parsed : Parse tokens again
  pub equal : without_places again ≡ without_places tree

-- tokens of these kinds are read as the tree
read_again : (tree : PlainTree) → IsPrintable tree → (tokens : List Token) → kinds_of tokens ≡ tokens_of tree → ReadAgain tree tokens
unfolding Parse
read_again tree h tokens e =
    let a = tree_added tree h in
    let b = a.begun tokens [] (e ∙ a.added [] ∙ sym (append-nil a.kinds)) in
    record { again = b.value; parsed = subst (λ rest. Spells (spelled_within 64) file tokens b.value rest) (no_tokens b.rest b.left) b.spelled; equal = b.is }

pub tree_appended : (tree : PlainTree) → IsPrintable tree → (old new : List ℕ) → AppendsTokens (tokens_of tree) old new → AppendsTree tree old new
tree_appended tree h old new a =
    let b = read_again tree h a.tokens a.same in
    record { text = a.text; tokens = a.tokens; again = b.again; appended = a.appended; lexed = a.lexed; same = a.same; parsed = b.parsed; equal = b.equal }
