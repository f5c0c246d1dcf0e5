use Rattle.std.proofs.Common.{◌≡◌}
use Rattle.cx_flattening.specs.Copies.{enabled_below}
use Rattle.cx_flat.proofs.enabled.count_below.Given as goal

abbrev pub invariant-loop-group : goal.invariant-loop-group
invariant-loop-group l = l.count ≡ enabled_below l.groups l.group
