use Rattle.std.proofs.Common.{◌≡◌}
use Rattle.std.specs.Prelude.{vec_len}
use Rattle.cx_weave.proofs.making.make_arms.Given as goal

abbrev pub invariant-loop-box : goal.invariant-loop-box
invariant-loop-box l = vec_len l.arms ≡ l._box
