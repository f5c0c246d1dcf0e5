use Rattle.cx_vlaws.proofs.MemoryLemmas.{memory_there}
use Rattle.cx_vlaws.proofs.memories.externals_are_memories.Goals as goal

pub returns : goal.returns
returns c source k e sound at = memory_there source sound k e at
