use Rattle.std.proofs.Common.{◌≡◌, ◌+◌, drop, map}
use Rattle.cx_design.specs.PlainForms.{plain_cell}
use Rattle.cx_profile.specs.Gains as specs
use Rattle.cx_profile.proofs.gained.cells_count.Given as goal

-- the count so far, and that of the cells that are left, are the whole count
abbrev pub invariant-loop-cell : goal.invariant-loop-cell
invariant-loop-cell l = l.count + specs.cells_count l.counts (map plain_cell (drop l.cell-index l.cells)) ≡ specs.cells_count l.counts (map plain_cell l.cells)
