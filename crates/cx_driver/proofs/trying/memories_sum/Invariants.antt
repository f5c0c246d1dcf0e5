use Rattle.std.proofs.Common.{◌≤◌, ◌-◌, ◌^◌, ◌≡◌, ◌+◌, drop, map}
use Rattle.cx_text.specs.Loading.{plain_memory}
use Rattle.cx_design_sizes.specs.Capped.{capped}
use Rattle.cx_driver.specs.Tried.{words_sum}
use Rattle.cx_driver.proofs.trying.memories_sum.Given as goal

abbrev pub invariant-loop-memory : goal.invariant-loop-memory
invariant-loop-memory l = (capped (l.total + words_sum (map plain_memory (drop l.memory-index l.memories))) ≡ capped (words_sum (map plain_memory l.memories))) × (l.total ≤ 2 ^ 64 - 1)
