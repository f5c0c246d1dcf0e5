use Rattle.std.proofs.Common.{arith}
use Rattle.std.proofs.lemmas.Nat.{and_mask}
use Rattle.cx_bits.proofs.values.reduced.Goals as goal

pub returns : goal.returns
returns c = grind (arith, and_mask)
