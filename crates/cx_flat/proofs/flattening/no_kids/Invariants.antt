use Rattle.std.proofs.Common.{◌≡◌, length}
use Rattle.cx_flat.proofs.flattening.no_kids.Given as goal

abbrev pub invariant-loop-number : goal.invariant-loop-number
invariant-loop-number l = length l.kids.items ≡ l._number
