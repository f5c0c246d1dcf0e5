use Rattle.std.proofs.Common.{arith}
use Rattle.cx_bits.proofs.Powers.{sub-mod_wide}
use Rattle.cx_bits.proofs.values.Bits.sub.Goals as goal

pub returns : goal.returns
returns c = grind (arith, sub-mod_wide)
