use Rattle.std.proofs.Common.{◌≤◌, ◌-◌, ◌^◌, ◌≡◌, ◌+◌, drop, sum}
use Rattle.cx_design_sizes.specs.Capped.{capped}
use Rattle.cx_driver.proofs.trying.words_total.Given as goal

abbrev pub invariant-loop-word : goal.invariant-loop-word
invariant-loop-word l = (capped (l.total + sum (drop l.word-index l.words)) ≡ capped (sum l.words)) × (l.total ≤ 2 ^ 64 - 1)
