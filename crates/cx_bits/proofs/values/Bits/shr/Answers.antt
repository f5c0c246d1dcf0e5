use Rattle.std.proofs.Common.{arith}
use Rattle.cx_bits.proofs.Powers.{div-pow_past}
use Rattle.cx_bits.proofs.values.Bits.shr.Goals as goal

pub returns : goal.returns
returns c = grind (arith, div-pow_past)
