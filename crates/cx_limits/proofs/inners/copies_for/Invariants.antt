use Rattle.std.proofs.Common.{◌≤◌, ◌-◌, ◌^◌, ◌≡◌, ◌+◌, drop, map}
use Rattle.cx_design.specs.PlainForms.{plain_invoke}
use Rattle.cx_rules.specs.Counts as counts
use Rattle.cx_design_sizes.specs.Capped.{capped}
use Rattle.cx_limits.specs.Rows.{plain_inners}
use Rattle.cx_limits.proofs.inners.copies_for.Given as goal

-- what is counted so far, and what is left, is all
abbrev pub invariant-loop-invoke : goal.invariant-loop-invoke
invariant-loop-invoke l =
    (capped (l.count + counts.copies_for (plain_inners l.below) (map plain_invoke (drop l.invoke-index l.invokes))) ≡ capped (counts.copies_for (plain_inners l.below) (map plain_invoke l.invokes)))
    × (l.count ≤ 2 ^ 64 - 1)
