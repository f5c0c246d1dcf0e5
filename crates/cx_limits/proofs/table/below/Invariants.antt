use Rattle.std.proofs.Common.{◌≡◌, ◌++◌, map, drop}
use Rattle.cx_design.specs.PlainDesigns.{plain_design}
use Rattle.cx_design.specs.PlainForms.{plain_cell}
use Rattle.cx_limits.specs.Rows.{inners_by, plain_inners}
use Rattle.cx_limits.proofs.table.below.Given as goal

-- what stands at the cells so far, and at those that are left, is all
abbrev pub invariant-loop-cell : goal.invariant-loop-cell
invariant-loop-cell l =
    plain_inners l.below.items ++ inners_by (plain_design l.design) l.rows (map plain_cell (drop l.cell-index l.part.cells.items)) ≡ inners_by (plain_design l.design) l.rows (map plain_cell l.part.cells.items)
