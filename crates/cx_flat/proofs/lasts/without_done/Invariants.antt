use Rattle.std.proofs.Common.{◌≡◌, ◌<◌, ℕ, None, get_or, length}
use Rattle.cx_flat.proofs.lasts.without_done.Given as goal

abbrev pub invariant-loop-cell : goal.invariant-loop-cell
invariant-loop-cell l = record {
  sized : length l.kids.items ≡ length l.fn.table.items;
  kept : (j : ℕ) → l.place < get_or l.lasts j 0 → get_or l.kids.items j None ≡ get_or l.fn.table.items j None;
}
