use Rattle.std.proofs.Common.{◌≤◌, ◌-◌, ◌^◌, ◌≡◌, ◌+◌, drop}
use Rattle.cx_rules.specs.Counts as counts
use Rattle.cx_design_sizes.specs.Capped.{capped}
use Rattle.cx_limits.specs.Rows.{plain_inners}
use Rattle.cx_limits.proofs.inners.always_in.Given as goal

-- what is counted so far, and what is left, is all
abbrev pub invariant-loop-inner : goal.invariant-loop-inner
invariant-loop-inner l = (capped (l.count + counts.always_in (plain_inners (drop l.inner-index l.below))) ≡ capped (counts.always_in (plain_inners l.below))) × (l.count ≤ 2 ^ 64 - 1)
