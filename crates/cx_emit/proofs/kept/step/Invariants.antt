use Rattle.std.proofs.Common.{◌≡◌, ◌++◌, length, map}
use Rattle.std.specs.Vec.Iter.{into_iter_items, into_iter_len}
use Rattle.cx_vtree.specs.Plain.{SetTo}
use Rattle.cx_vtree.specs.PlainParts.{plain_assign, plain_item}
use Rattle.cx_emit.proofs.kept.step.Given as goal

-- those so far, and those that are left, are all
abbrev pub invariant-loop-set : goal.invariant-loop-set
invariant-loop-set l =
    (map plain_item l.items.items ++ map SetTo (map plain_assign (into_iter_items l.set-iterator)) ≡ map SetTo (map plain_assign l.fn.driven.items))
    × (into_iter_len l.set-iterator ≡ length (into_iter_items l.set-iterator))
