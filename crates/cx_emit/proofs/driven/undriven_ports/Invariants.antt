use Rattle.std.proofs.Common.{◌≡◌, [], ◌++◌, drop, map}
use Rattle.cx_vtree.specs.PlainParts.{plain_port}
use Rattle.cx_emit.specs.Driven.{port_driven}
use Rattle.cx_emit.specs.PlainForms.{plain_port_driven}
use Rattle.cx_emit.specs.Numbered.{numbered_from}
use Rattle.cx_emit.proofs.driven.undriven_ports.Given as goal

-- those so far, and those that are left, are all
abbrev pub invariant-loop-number : goal.invariant-loop-number
invariant-loop-number l =
    map plain_port_driven l.driven.items ++ numbered_from (port_driven [] l.cell) l.number (map plain_port (drop l.number l.ports))
    ≡ numbered_from (port_driven [] l.cell) 0 (map plain_port l.ports)
