use Rattle.std.proofs.Common.{◌≡◌, ◌++◌, drop, map}
use Rattle.cx_vtree.specs.PlainParts.{plain_conn, plain_port}
use Rattle.cx_emit.specs.Sources.{port_conn}
use Rattle.cx_emit.specs.Numbered.{numbered_from}
use Rattle.cx_emit.proofs.cells.add_conns.Given as goal

-- those so far, and those that are left, are all
abbrev pub invariant-loop-number : goal.invariant-loop-number
invariant-loop-number l =
    map plain_conn l.conns.items ++ numbered_from (port_conn l.cell) l.number (map plain_port (drop l.number l.ports))
    ≡ map plain_conn l.initial.conns.items ++ numbered_from (port_conn l.cell) 0 (map plain_port l.ports)
