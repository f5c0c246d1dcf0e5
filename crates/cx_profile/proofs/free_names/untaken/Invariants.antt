use Rattle.std.proofs.Common.{◌≡◌}
use Rattle.cx_profile.specs.Naming.{first_free}
use Rattle.cx_profile.proofs.free_names.untaken.Given as goal

abbrev pub invariant-loop-number : goal.invariant-loop-number
invariant-loop-number l = l.names.items ≡ first_free l.taken l.count l.number
