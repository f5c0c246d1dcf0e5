use Rattle.std.proofs.Common.{◌≡◌, ◌++◌, length, map}
use Rattle.std.specs.Vec.Iter.{into_iter_items, into_iter_len}
use Rattle.std.specs.List.{flat_map}
use Rattle.cx_vtree.specs.PlainParts.{plain_assign}
use Rattle.cx_emit.specs.Driven.{present}
use Rattle.cx_emit.specs.PlainForms.{plain_ports_driven}
use Rattle.cx_emit.proofs.cells.add_cell_assigns.Given as goal

-- those so far, and those that are left, are all
abbrev pub invariant-loop-own : goal.invariant-loop-own
invariant-loop-own l =
    (map plain_assign l.assigns.items ++ flat_map present (map plain_ports_driven (into_iter_items l.own-iterator))
    ≡ map plain_assign l.initial.assigns.items ++ flat_map present (map plain_ports_driven l.fn.driven.items))
    × (into_iter_len l.own-iterator ≡ length (into_iter_items l.own-iterator))
