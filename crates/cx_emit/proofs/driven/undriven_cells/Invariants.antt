use Rattle.std.proofs.Common.{◌≡◌, [], ◌++◌, drop, map}
use Rattle.cx_emit.specs.Driven.{cell_driven}
use Rattle.cx_emit.specs.PlainForms.{plain_cell_ports, plain_ports_driven}
use Rattle.cx_emit.specs.Numbered.{numbered_from}
use Rattle.cx_emit.proofs.driven.undriven_cells.Given as goal

-- those so far, and those that are left, are all
abbrev pub invariant-loop-number : goal.invariant-loop-number
invariant-loop-number l =
    map plain_ports_driven l.driven.items ++ numbered_from (cell_driven []) l.number (map plain_cell_ports (drop l.number l.cells))
    ≡ numbered_from (cell_driven []) 0 (map plain_cell_ports l.cells)
