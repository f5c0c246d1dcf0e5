use Rattle.std.proofs.Common.{◌≡◌, ◌++◌, drop, map}
use Rattle.cx_vtree.specs.PlainParts.{plain_decl}
use Rattle.cx_emit.specs.Sources.{cell_decls}
use Rattle.cx_emit.specs.PlainForms.{plain_cell_ports}
use Rattle.cx_emit.specs.Numbered.{lists_from}
use Rattle.cx_emit.proofs.cells.add_cell_decls.Given as goal

-- those so far, and those that are left, are all
abbrev pub invariant-loop-number : goal.invariant-loop-number
invariant-loop-number l =
    map plain_decl l.decls.items ++ lists_from cell_decls l.number (map plain_cell_ports (drop l.number l.cells))
    ≡ map plain_decl l.initial.decls.items ++ lists_from cell_decls 0 (map plain_cell_ports l.cells)
