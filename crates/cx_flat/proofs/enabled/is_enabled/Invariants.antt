use Rattle.std.proofs.Common.{◌≡◌, drop}
use Rattle.cx_rules.specs.Counts.{is_one_of}
use Rattle.cx_flat.proofs.enabled.is_enabled.Given as goal

-- none so far is the group
abbrev pub invariant-loop-enabled : goal.invariant-loop-enabled
invariant-loop-enabled l = is_one_of l.group (drop l.enabled-index l.groups) ≡ is_one_of l.group l.groups
