use Rattle.std.proofs.Common.{arith}
use Rattle.std.proofs.lemmas.Nat.{xor_lt}
use Rattle.cx_bits.proofs.values.Bits.xor.Goals as goal

pub invariant_of-result : goal.invariant_of-result
invariant_of-result c = grind (arith, xor_lt)
