use Rattle.std.proofs.Common.{◌≡◌, ℕ, ◌<◌, Some, length, slice_get}
use Rattle.cx_eval_network.specs.declared.marks.StampedMark.{StampedMark}
use Rattle.cx_eval_network.proofs.marks.clear.Given as goal

-- the first marks have no stamp any more
abbrev pub invariant-loop-node : goal.invariant-loop-node
invariant-loop-node l = record {
  count : length l.marks.items ≡ length l.initial.marks.items;
  cleared : (n : ℕ) (m : StampedMark) → n < l.node → slice_get l.marks.items n ≡ Some m → m.stamp ≡ 0;
}
