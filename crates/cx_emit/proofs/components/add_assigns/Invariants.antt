use Rattle.std.proofs.Common.{◌≡◌, ◌++◌, length, map}
use Rattle.std.specs.Vec.Iter.{into_iter_items, into_iter_len}
use Rattle.cx_vtree.specs.PlainParts.{plain_assign}
use Rattle.cx_emit.proofs.components.add_assigns.Given as goal

-- those so far, and those that are left, are all
abbrev pub invariant-loop-assign : goal.invariant-loop-assign
invariant-loop-assign l =
    (map plain_assign l.assigns.items ++ map plain_assign (into_iter_items l.assign-iterator) ≡ map plain_assign l.initial.assigns.items ++ map plain_assign l.fn.more.items)
    × (into_iter_len l.assign-iterator ≡ length (into_iter_items l.assign-iterator))
