use Rattle.std.proofs.Common.{arith}
use Rattle.cx_bits.proofs.Powers.{mod-mod_wide}
use Rattle.cx_bits.proofs.values.Bits.mul.Goals as goal

pub returns : goal.returns
returns c = grind (arith, mod-mod_wide)
