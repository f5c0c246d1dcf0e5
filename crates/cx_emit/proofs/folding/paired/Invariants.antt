use Rattle.std.proofs.Common.{◌≡◌, ◌++◌, length, map}
use Rattle.std.specs.Vec.Iter.{into_iter_items, into_iter_len}
use Rattle.cx_vtree.specs.PlainParts.{plain_expr}
use Rattle.cx_emit.specs.Exprs.{paired}
use Rattle.cx_emit.proofs.PairingLemmas.{with_waiting}
use Rattle.cx_emit.proofs.folding.paired.Given as goal

-- those so far, and those of what is waiting and what is left, are all
abbrev pub invariant-loop-part : goal.invariant-loop-part
invariant-loop-part l =
    (map plain_expr l.pairs.items ++ paired l.operator (with_waiting l.waiting (map plain_expr (into_iter_items l.part-iterator))) ≡ paired l.operator (map plain_expr l.fn.parts.items))
    × (into_iter_len l.part-iterator ≡ length (into_iter_items l.part-iterator))
