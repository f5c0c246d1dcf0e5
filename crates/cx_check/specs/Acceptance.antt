-- When a tree is accepted, and what it is refused for where it is not.
use Rattle.std.specs.Prelude.{◌≡◌, ◌⊎◌, Some, None}
use Rattle.cx_text.specs.declared.diagnostics.Diagnostic.{Diagnostic}
use Rattle.cx_ast.specs.PlainTree.{PlainTree}
use Rattle.cx_rules.specs.Accepted.{IsAccepted, FirstBreak}
use Rattle.cx_numbering.specs.DesignOf.{design_of}
use Rattle.cx_numbering.specs.NameRules.{names_break}
use Rattle.cx_design.specs.declared.refusals.Refusal.{Refusal}
use Rattle.cx_design.specs.declared.refusals.Refusal.TheVariants.{Rule, Memory}

-- ACCEPTED: it breaks no rule on names, and its design breaks no rule
pub record IsAcceptedTree (tree : PlainTree) : Type 0 where
  pub named : names_break tree ≡ None
  pub accepted : IsAccepted (design_of tree)

-- REFUSED: for the first break of the rules on names; else for the first break of its design
abbrev pub TreeBreak : PlainTree → Diagnostic → Type 0
TreeBreak tree told = (names_break tree ≡ Some told) ⊎ ((names_break tree ≡ None) × FirstBreak (design_of tree) told)

-- what is told where a tree is refused, unless memory is wanting
abbrev pub IsTreeRefusal : PlainTree → Refusal → Type 0
IsTreeRefusal tree (Rule told) = TreeBreak tree told
IsTreeRefusal tree Memory = Unit {0}
