use Rattle.std.proofs.Common.{◌≡◌, drop, map}
use Rattle.cx_design.specs.PlainForms.{plain_invoke}
use Rattle.cx_limits.specs.Inners.{captures_by, set_all}
use Rattle.cx_limits.proofs.needed.flag_captures.Given as goal

-- with the flags of the invokes that are left all are set
abbrev pub invariant-loop-invoke : goal.invariant-loop-invoke
invariant-loop-invoke l = set_all l.flags (captures_by (map plain_invoke (drop l.invoke-index l.invokes))) ≡ set_all l.initial.flags (captures_by (map plain_invoke l.invokes))
