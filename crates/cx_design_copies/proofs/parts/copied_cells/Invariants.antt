use Rattle.std.proofs.Common.{◌≡◌, ◌++◌, drop, map}
use Rattle.cx_design.specs.PlainForms.{plain_cell}
use Rattle.cx_design_copies.proofs.parts.copied_cells.Given as goal

-- the copies so far, and those of the parts that are left, are all
abbrev pub invariant-loop-cell : goal.invariant-loop-cell
invariant-loop-cell l = map plain_cell l.copies.items ++ map plain_cell (drop l.cell-index l.cells) ≡ map plain_cell l.cells
