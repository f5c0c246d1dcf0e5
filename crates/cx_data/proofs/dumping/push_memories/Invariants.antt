use Rattle.std.proofs.Common.{◌≡◌, ◌++◌, map, drop}
use Rattle.cx_text.specs.Loading.{plain_memory}
use Rattle.cx_data.specs.Dump.{joined, memory_text}
use Rattle.cx_data.proofs.dumping.push_memories.Given as goal

abbrev pub invariant-loop-index : goal.invariant-loop-index
invariant-loop-index l =
    l.out.items ++ joined l.index (map memory_text (map (λ b. plain_memory b.now) (drop l.index l.memories)))
    ≡ l.initial.out.items ++ joined 0 (map memory_text (map (λ b. plain_memory b.now) l.memories))
