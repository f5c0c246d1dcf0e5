use Rattle.std.proofs.Common.{◌≡◌, ◌++◌, drop, length, map}
use Rattle.cx_design.specs.PlainForms.{plain_cell}
use Rattle.cx_design.specs.PlainDesigns.{plain_design}
use Rattle.cx_profile.specs.Renumbering.{AreThere}
use Rattle.cx_profile.specs.Growing as growing
use Rattle.cx_profile.proofs.outputs.with_cell_ports.Given as goal

-- the ports so far, and those of the cells that are left, are all
abbrev pub invariant-loop-cell : goal.invariant-loop-cell
invariant-loop-cell l = record {
  there : AreThere (length l.design.components.items) (map plain_cell (drop l.cell-index l.cells));
  ports : l.all.items ++ growing.cell_ports (plain_design l.design) l.number (map plain_cell (drop l.cell-index l.cells))
      ≡ l.fn.ports.items ++ growing.cell_ports (plain_design l.design) 0 (map plain_cell l.cells);
}
