use Rattle.std.proofs.Common.{◌≡◌, ◌++◌, drop, map}
use Rattle.cx_design.specs.PlainForms.{plain_cell}
use Rattle.cx_net.specs.NetsAsData.{plain_net}
use Rattle.cx_emit.specs.PlainForms.{plain_cell_ports}
use Rattle.cx_emit.specs.Signatures.{cell_ports}
use Rattle.cx_emit.proofs.signatures.all_cell_ports.Given as goal

-- those so far, and those that are left, are all
abbrev pub invariant-loop-cell : goal.invariant-loop-cell
invariant-loop-cell l =
    map plain_cell_ports l.all.items ++ map (cell_ports (plain_net l.net)) (map plain_cell (drop l.cell-index l.cells)) ≡ map (cell_ports (plain_net l.net)) (map plain_cell l.cells)
