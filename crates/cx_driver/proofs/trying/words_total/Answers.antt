use Rattle.std.proofs.Common.{sum, refl, arith}
use Rattle.cx_design_sizes.proofs.Caps.{ended}
use Rattle.cx_driver.proofs.trying.words_total.Goals as goal

pub returns : goal.returns
returns c = ended sum c.args.words.now c.loop-word.word-index c.loop-word.total refl (omega arith) c.loop-word.invariant.1 c.loop-word.invariant.0
