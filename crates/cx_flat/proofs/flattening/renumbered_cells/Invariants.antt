use Rattle.std.proofs.Common.{◌≡◌, ◌++◌, drop, map}
use Rattle.cx_design.specs.PlainForms.{plain_cell}
use Rattle.cx_flat.specs.Flats.{cell_by}
use Rattle.cx_flat.proofs.flattening.renumbered_cells.Given as goal

-- the cells so far, and those that are left, are all
abbrev pub invariant-loop-cell : goal.invariant-loop-cell
invariant-loop-cell l = map plain_cell l.all.items ++ map (cell_by l.numbers) (map plain_cell (drop l.cell-index l.cells)) ≡ map (cell_by l.numbers) (map plain_cell l.cells)
