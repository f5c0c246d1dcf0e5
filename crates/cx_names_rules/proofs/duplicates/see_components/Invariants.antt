use Rattle.std.proofs.Common.{ℕ, List, drop, map}
use Rattle.cx_ast.specs.PlainTree.{plain_component}
use Rattle.cx_numbering.specs.NameRules.{named}
use Rattle.cx_names_rules.specs.Seen.{Sees, SeesUpTo}
use Rattle.cx_names_rules.proofs.duplicates.see_components.Given as goal

-- those behind are not yet seen
abbrev pub invariant-loop-component : goal.invariant-loop-component
invariant-loop-component l = (before : List (List ℕ)) → Sees before l.initial.seen → SeesUpTo before (map (λ part. named part.name part.place) (map plain_component l.components)) (map (λ part. named part.name part.place) (map plain_component (drop l.component-index l.components))) l.initial.found l.seen l.found
