use Rattle.std.proofs.Common.{arith}
use Rattle.cx_bits.proofs.Powers.{pow_grows}
use Rattle.cx_bits.proofs.values.Bits.pad.Goals as goal

pub invariant_of-result : goal.invariant_of-result
invariant_of-result c = grind (arith, pow_grows)
