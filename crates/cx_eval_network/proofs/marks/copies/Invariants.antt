use Rattle.std.proofs.Common.{◌≡◌, replicate}
use Rattle.cx_eval_network.proofs.marks.copies.Given as goal

abbrev pub invariant-copies : goal.invariant-copies
invariant-copies g l = l.all.items ≡ replicate l._copy l.item
