use Rattle.std.proofs.Common.{map, refl, arith}
use Rattle.cx_text.specs.Loading.{plain_memory}
use Rattle.cx_design_sizes.proofs.Caps.{ended}
use Rattle.cx_driver.specs.Tried.{words_sum}
use Rattle.cx_driver.proofs.trying.memories_sum.Goals as goal

pub returns : goal.returns
returns c = ended (λ memories. words_sum (map plain_memory memories)) c.args.memories.now c.loop-memory.memory-index c.loop-memory.total refl (omega arith) c.loop-memory.invariant.1 c.loop-memory.invariant.0
