use Rattle.std.proofs.Common.{◌≡◌, ℕ, ◌<◌, get_or, length}
use Rattle.cx_share.proofs.giving.each_itself.Given as goal

-- each cell so far stands for itself
abbrev pub invariant-loop-cell : goal.invariant-loop-cell
invariant-loop-cell l = record {
  count : length l.keepers.items ≡ l.cell;
  each : (c : ℕ) → c < l.cell → get_or l.keepers.items c 0 ≡ c;
}
