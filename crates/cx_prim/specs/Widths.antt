-- Widths of ports.
use Rattle.std.specs.Prelude.{ℕ, ◌≤◌, ◌&&◌, Bool, nat_le}

-- 1 to 128 bits
pub record IsWidth (width : ℕ) : Type 0 where
  pub some_bits : 1 ≤ width
  pub few_bits : width ≤ 128

-- the test of it
abbrev pub is_width : ℕ → Bool
is_width width = nat_le 1 width && nat_le width 128
