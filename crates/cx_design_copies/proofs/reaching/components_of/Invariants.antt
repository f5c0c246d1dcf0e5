use Rattle.std.proofs.Common.{◌≡◌, ◌++◌, drop, map}
use Rattle.cx_design.specs.PlainForms.{plain_cell}
use Rattle.cx_design_copies.specs.Reaching as reaching
use Rattle.cx_design_copies.proofs.reaching.components_of.Given as goal

-- the components so far, and those of the cells that are left, are all
abbrev pub invariant-loop-cell : goal.invariant-loop-cell
invariant-loop-cell l = l.components.items ++ reaching.components_of (map plain_cell (drop l.cell-index l.cells)) ≡ reaching.components_of (map plain_cell l.cells)
