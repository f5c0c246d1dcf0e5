-- What a rewriting writes, and what is read of it.
use Rattle.std.specs.Prelude.{◌≡◌, ℕ, List}
use Rattle.cx_ast.specs.declared.tokens.Token.{Token}
use Rattle.cx_ast.specs.PlainTree.{PlainTree}
use Rattle.cx_lex.specs.Lex.{Lex}
use Rattle.cx_grammar.specs.Parsing.{Parse}
use Rattle.cx_print.specs.Places.{without_places}
use Rattle.cx_print.specs.Printed.{AppendsTree}
use Rattle.cx_meaning.specs.declared.ports.PortRef.{PortRef}
use Rattle.cx_meaning.specs.Instances.{Path, State, tree_of, words_of}
use Rattle.cx_rules.specs.Externals.{external_rows}
use Rattle.cx_rules.specs.FullPaths.{full_path}
use Rattle.cx_numbering.specs.DesignOf.{design_of}
use Rattle.cx_check.specs.Acceptance.{IsAcceptedTree}
use Rattle.cx_flattening.specs.Whole.{whole_main}
use Rattle.cx_rewritten.specs.Comments.{AreComments}

-- WRITTEN: lines of comments, and behind them a text that is read as the tree apart from places
pub record IsWritten (tree : PlainTree) (written : List ℕ) : Type 0 where
  pub comments : List ℕ
  pub are : AreComments comments
  pub printed : AppendsTree tree comments written

-- READ: the text has a tree that is this one apart from places. It has the same run, with static components, on all
-- data and under each budget, with the same words in the same external memories, and the same names of ports. It is
-- accepted where this one is
pub record IsReadAs (tree : PlainTree) (written : List ℕ) : Type 0 where
  pub again : PlainTree
  pub tokens : List Token
  pub lexed : Lex written tokens
  pub parsed : Parse tokens again
  pub equal : without_places again ≡ without_places tree
  pub accepted : IsAcceptedTree tree → IsAcceptedTree again
  pub run : (words : List (List ℕ)) (n : ℕ) → whole_main (design_of tree) words n ≡ whole_main (design_of again) words n
  pub words : (s : State) → words_of (tree_of (design_of tree)) s ≡ words_of (tree_of (design_of again)) s
  pub rows : external_rows (design_of tree) ≡ external_rows (design_of again)
  pub names : (path : Path) (port : PortRef)
      → full_path (tree_of (design_of tree)) path port ≡ full_path (tree_of (design_of again)) path port
