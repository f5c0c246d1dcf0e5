-- What `promote` does with a text.
use Rattle.std.specs.Prelude.{ℕ, List, Result}
use Rattle.cx_ast.specs.PlainTree.{PlainTree}
use Rattle.cx_commands.specs.declared.stops.Stop.{Stop}
use Rattle.cx_rewritten.specs.NoLater.{EndsNoLater}
use Rattle.cx_rewritten.specs.PromotedTexts.{IsPromotedText}
use Rattle.cx_driver.specs.Rewriting.{IsRewritten, Rewrites}

-- what it writes of a tree: the lines of what is promoted, and a text that is read as the promoted tree apart from places; it is accepted,
-- and its design ends no later than that of the tree, in the same state, with static components too
pub record PromotesTree (tree : PlainTree) (answer : List ℕ) : Type 0 where
  pub written : IsPromotedText tree answer
  pub runs : EndsNoLater tree answer

-- WHAT IT WRITES OF A TEXT: the text is accepted, and this is written of its tree
abbrev pub PromotesText : List ℕ → List ℕ → Type 0
PromotesText text answer = IsRewritten PromotesTree text answer

-- WHAT IT DOES: it writes this; or the text breaks a rule, and that is told
abbrev pub Promotes : List ℕ → Result (List ℕ) Stop → Type 0
Promotes text result = Rewrites PromotesTree text result
