use Rattle.std.proofs.Common.{◌≡◌, ◌++◌, drop, map}
use Rattle.cx_vtree.specs.PlainParts.{plain_decl, plain_port}
use Rattle.cx_emit.specs.Sources.{port_decl}
use Rattle.cx_emit.specs.Numbered.{numbered_from}
use Rattle.cx_emit.proofs.cells.add_port_decls.Given as goal

-- those so far, and those that are left, are all
abbrev pub invariant-loop-number : goal.invariant-loop-number
invariant-loop-number l =
    map plain_decl l.decls.items ++ numbered_from (port_decl l.cell) l.number (map plain_port (drop l.number l.ports))
    ≡ map plain_decl l.initial.decls.items ++ numbered_from (port_decl l.cell) 0 (map plain_port l.ports)
