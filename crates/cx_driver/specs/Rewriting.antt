-- What a command does with a text that writes another design of it.
use Rattle.std.specs.Prelude.{◌≡◌, ◌⊎◌, ℕ, List, Result, Ok, Err}
use Rattle.cx_text.specs.declared.diagnostics.Diagnostic.{Diagnostic}
use Rattle.cx_ast.specs.PlainTree.{PlainTree}
use Rattle.cx_check.specs.Acceptance.{IsAcceptedTree}
use Rattle.cx_commands.specs.Unread.{HasTree}
use Rattle.cx_commands.specs.declared.stops.Stop.{Stop}
use Rattle.cx_commands.specs.declared.stops.Stop.TheVariants as stops
use Rattle.cx_compiler.specs.Texts.{TextBreak}

-- WHAT IT WRITES OF A TEXT: the text is accepted, and this is written of its tree
pub record IsRewritten (Writes : PlainTree → List ℕ → Type 0) (text answer : List ℕ) : Type 0 where
  pub tree : PlainTree
  pub has : HasTree text tree
  pub accepted : IsAcceptedTree tree
  pub written : Writes tree answer

-- WHAT IT DOES: it writes this; or the text breaks a rule, and that is told
abbrev pub Rewrites : (PlainTree → List ℕ → Type 0) → List ℕ → Result (List ℕ) Stop → Type 0
Rewrites Writes text result =
    ((answer : List ℕ) × IsRewritten Writes text answer × (result ≡ Ok answer))
    ⊎ ((told : Diagnostic) × TextBreak text told × (result ≡ Err (stops.Rule told)))
