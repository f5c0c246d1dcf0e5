use Rattle.std.proofs.Common.{◌≡◌, ◌++◌, drop, length, map}
use Rattle.cx_design.specs.PlainForms.{plain_cell}
use Rattle.cx_design.specs.PlainDesigns.{plain_design}
use Rattle.cx_profile.specs.Renumbering.{dones_of, AreThere}
use Rattle.cx_profile.proofs.renumbering.renumbered_cells.Given as goal

-- the numbers so far, and those of the cells that are left, are all
abbrev pub invariant-loop-cell : goal.invariant-loop-cell
invariant-loop-cell l = record {
  there : AreThere (length l.design.components.items) (map plain_cell (drop l.cell-index l.cells));
  numbers : l.all.items ++ dones_of (plain_design l.design) (map plain_cell (drop l.cell-index l.cells)) ≡ dones_of (plain_design l.design) (map plain_cell l.cells);
}
