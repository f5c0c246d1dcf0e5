use Rattle.std.proofs.Common.{◌≡◌}
use Rattle.cx_design.specs.PlainDesigns.{plain_design}
use Rattle.cx_limits.specs.Scan.{past_first}
use Rattle.cx_limits.proofs.checking.first_limit.Given as goal

abbrev pub invariant-loop-number : goal.invariant-loop-number
invariant-loop-number l = l.best ≡ past_first (plain_design l.design) l.number
