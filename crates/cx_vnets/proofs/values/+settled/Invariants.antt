use Rattle.std.proofs.Common.{◌+◌, ◌*◌, max}
use Rattle.cx_vnets.specs.declared.codes.Code.{size-Code}
use Rattle.cx_vnets.proofs.values.+settled.Given as goal

-- a code is deeper than each of its operands, and so is what is called for it
abbrev pub decreases-settled : goal.decreases-settled
decreases-settled l = 4 * size-Code l.code.now + 1

abbrev pub decreases-nested : goal.decreases-nested
decreases-nested l = 4 * size-Code l.code.now + 2

abbrev pub decreases-operand : goal.decreases-operand
decreases-operand l = 4 * size-Code l.code.now + 3

abbrev pub decreases-word_settled : goal.decreases-word_settled
decreases-word_settled l = 4 * size-Code l.index.now + 4

abbrev pub decreases-operated : goal.decreases-operated
decreases-operated l = 4 * max (size-Code l.left.now) (size-Code l.right.now) + 4

abbrev pub decreases-inverted : goal.decreases-inverted
decreases-inverted l = 4 * size-Code l.inner.now + 4

abbrev pub decreases-chosen : goal.decreases-chosen
decreases-chosen l = 4 * max (size-Code l.test.now) (max (size-Code l.one.now) (size-Code l.other.now)) + 4

abbrev pub decreases-joined : goal.decreases-joined
decreases-joined l = 4 * max (size-Code l.high.now) (size-Code l.low.now) + 4
