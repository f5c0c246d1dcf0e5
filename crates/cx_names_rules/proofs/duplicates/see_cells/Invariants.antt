use Rattle.std.proofs.Common.{ℕ, List, drop, map}
use Rattle.cx_ast.specs.PlainTree.{plain_cell}
use Rattle.cx_numbering.specs.NameRules.{named}
use Rattle.cx_names_rules.specs.Seen.{Sees, SeesUpTo}
use Rattle.cx_names_rules.proofs.duplicates.see_cells.Given as goal

-- those behind are not yet seen
abbrev pub invariant-loop-cell : goal.invariant-loop-cell
invariant-loop-cell l = (before : List (List ℕ)) → Sees before l.initial.seen → SeesUpTo before (map (λ c. named c.name c.place) (map plain_cell l.cells)) (map (λ c. named c.name c.place) (map plain_cell (drop l.cell-index l.cells))) l.initial.found l.seen l.found
