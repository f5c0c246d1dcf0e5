use Rattle.std.proofs.Common.{◌≡◌, ◌++◌, drop, map}
use Rattle.cx_vtree.specs.PlainParts.{plain_instance}
use Rattle.cx_emit.specs.Sources.{cell_instance}
use Rattle.cx_emit.specs.PlainForms.{plain_cell_ports}
use Rattle.cx_emit.specs.Numbered.{numbered_from}
use Rattle.cx_emit.proofs.cells.instances.Given as goal

-- those so far, and those that are left, are all
abbrev pub invariant-loop-number : goal.invariant-loop-number
invariant-loop-number l =
    map plain_instance l.instances.items ++ numbered_from cell_instance l.number (map plain_cell_ports (drop l.number l.cells))
    ≡ numbered_from cell_instance 0 (map plain_cell_ports l.cells)
