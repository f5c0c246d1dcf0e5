use Rattle.std.proofs.Common.{ℕ, ◌<◌}
use Rattle.cx_vnets.specs.Gates.{IsKnownZero, IsZero}
use Rattle.cx_vnets.proofs.gates.note_zeros.Given as goal

abbrev pub invariant-loop-net : goal.invariant-loop-net
invariant-loop-net l = (net : ℕ) → net < l.net → IsKnownZero l.nonzero net → IsZero l.values net
