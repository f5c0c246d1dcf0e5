-- Numbers below 2^64.
use Rattle.std.proofs.Common.{◌≡◌, ℕ, ◌<◌, ◌^◌, suc, true, ◌&&◌, Some, None, ap, if◌then◌else◌}
use Rattle.std.specs.Prelude.{nat_lt}
use Rattle.std.proofs.lemmas.Bool.{and_parts, lt-ltb, ltb-true}

pub small_some : (n : ℕ) → n < 2 ^ 64 → (if nat_lt n (2 ^ 64) then Some n else None) ≡ Some n
small_some n lt = ap (λ b. if b then Some n else None) (lt-ltb n (2 ^ 64) lt)

-- the last index of an array that a tree holds
pub small_last : (w k : ℕ) → nat_lt w 256 && nat_lt (suc k) 18446744073709551616 ≡ true → suc k < 18446744073709551616
small_last w k h = ltb-true (suc k) 18446744073709551616 (and_parts (nat_lt w 256) (nat_lt (suc k) 18446744073709551616) h).1
