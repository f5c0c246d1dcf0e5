use Rattle.cx_bits.proofs.Powers.{ones-shift}
use Rattle.cx_bits.proofs.values.ones.Goals as goal

pub returns : goal.returns
returns c = ones-shift c.args.width c.requires.few_bits
