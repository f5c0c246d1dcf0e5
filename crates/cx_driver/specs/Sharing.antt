-- What `share` does with a text.
use Rattle.std.specs.Prelude.{ℕ, List, Result}
use Rattle.cx_ast.specs.PlainTree.{PlainTree}
use Rattle.cx_commands.specs.declared.stops.Stop.{Stop}
use Rattle.cx_rewritten.specs.Alike.{RunsAs}
use Rattle.cx_rewritten.specs.SharedTexts.{IsSharedText}
use Rattle.cx_driver.specs.Rewriting.{IsRewritten, Rewrites}

-- what it writes of a tree: the lines of what is shared, and a text that is read as the shared tree apart from places; it is accepted, and
-- its design runs as that of the tree, with static components too
pub record IsSharedTree (tree : PlainTree) (answer : List ℕ) : Type 0 where
  pub written : IsSharedText tree answer
  pub runs : RunsAs tree answer

-- WHAT IT WRITES OF A TEXT: the text is accepted, and this is written of its tree
abbrev pub IsShared : List ℕ → List ℕ → Type 0
IsShared text answer = IsRewritten IsSharedTree text answer

-- WHAT IT DOES: it writes this; or the text breaks a rule, and that is told
abbrev pub Shares : List ℕ → Result (List ℕ) Stop → Type 0
Shares text result = Rewrites IsSharedTree text result
