use Rattle.std.proofs.Common.{◌≡◌, ◌++◌, drop, map}
use Rattle.cx_design.specs.PlainForms.{plain_cell}
use Rattle.cx_wiring.specs.Wiring.{cell_in}
use Rattle.cx_fsm.proofs.copies.ordered_cells.Given as goal

-- the copies so far, and those of the cells that are left, are all
abbrev pub invariant-loop-cell : goal.invariant-loop-cell
invariant-loop-cell l =
    map plain_cell l.copies.items ++ map (cell_in l.order) (map plain_cell (drop l.cell-index l.cells)) ≡ map (cell_in l.order) (map plain_cell l.cells)
