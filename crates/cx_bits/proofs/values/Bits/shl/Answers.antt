use Rattle.std.proofs.Common.{arith}
use Rattle.cx_bits.proofs.Powers.{shift-mod_past, mod-mod_wide}
use Rattle.cx_bits.proofs.values.Bits.shl.Goals as goal

pub returns : goal.returns
returns c = grind (arith, shift-mod_past, mod-mod_wide)
