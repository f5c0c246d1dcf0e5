use Rattle.std.proofs.Common.{◌≡◌, ◌++◌, length, map}
use Rattle.std.specs.Vec.Iter.{into_iter_items, into_iter_len}
use Rattle.cx_vtree.specs.PlainParts.{plain_assign}
use Rattle.cx_emit.specs.Driven.{present}
use Rattle.cx_emit.specs.PlainForms.{plain_port_driven}
use Rattle.cx_emit.proofs.cells.add_port_assigns.Given as goal

-- those so far, and those that are left, are all
abbrev pub invariant-loop-port : goal.invariant-loop-port
invariant-loop-port l =
    (map plain_assign l.assigns.items ++ present (map plain_port_driven (into_iter_items l.port-iterator))
    ≡ map plain_assign l.initial.assigns.items ++ present (map plain_port_driven l.fn.driven.items))
    × (into_iter_len l.port-iterator ≡ length (into_iter_items l.port-iterator))
