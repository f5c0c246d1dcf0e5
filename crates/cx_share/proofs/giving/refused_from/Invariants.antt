use Rattle.std.proofs.Common.{◌≡◌, ℕ, ◌<◌, ◌≤◌, length}
use Rattle.cx_share.specs.Givings.{IsWithin, near_of}
use Rattle.cx_share.proofs.giving.refused_from.Given as goal

-- the set is within those of the first ones, and as wide as the first
abbrev pub invariant-loop-number : goal.invariant-loop-number
invariant-loop-number l = record {
  wide : length l.near ≡ length (near_of l.kept l.from);
  within : (k : ℕ) → l.from ≤ k → k < l.number → IsWithin l.near (near_of l.kept k);
}
