-- Texts whose designs are accepted, and end no later than the design of a tree, in the same state.
use Rattle.std.specs.Prelude.{◌≡◌, ℕ, List}
use Rattle.cx_ast.specs.declared.tokens.Token.{Token}
use Rattle.cx_ast.specs.PlainTree.{PlainTree}
use Rattle.cx_lex.specs.Lex.{Lex}
use Rattle.cx_grammar.specs.Parsing.{Parse}
use Rattle.cx_meaning.specs.Instances.{State, tree_of, words_of}
use Rattle.cx_numbering.specs.DesignOf.{design_of}
use Rattle.cx_check.specs.Acceptance.{IsAcceptedTree}
use Rattle.cx_flattening.specs.Ends.{NoneNamesDone}
use Rattle.cx_promotion.specs.Made.{WholeQuickens}

-- the text has a tree that is accepted; the same words stand in the external memories. Where nothing in the design of
-- this tree looks at the done of a static component's cell, as in the design of every text, the external memories are
-- the same, and where the run of this one ends, with its static components, on all data and under each budget, that
-- of the text's design ends under the budget, in no more turns, in the same state
pub record EndsNoLater (tree : PlainTree) (written : List ℕ) : Type 0 where
  pub again : PlainTree
  pub tokens : List Token
  pub lexed : Lex written tokens
  pub parsed : Parse tokens again
  pub accepted : IsAcceptedTree again
  pub quickens : NoneNamesDone (design_of tree) → WholeQuickens (design_of tree) (design_of again)
  pub words : (s : State) → words_of (tree_of (design_of again)) s ≡ words_of (tree_of (design_of tree)) s
