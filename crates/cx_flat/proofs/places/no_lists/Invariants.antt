use Rattle.std.proofs.Common.{◌≡◌, length}
use Rattle.cx_flat.proofs.places.no_lists.Given as goal

abbrev pub invariant-loop-number : goal.invariant-loop-number
invariant-loop-number l = length l.lists.items ≡ l._number
