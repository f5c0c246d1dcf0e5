-- Nets whose widths agree with what is stored.
use Rattle.std.specs.Prelude.{◌≡◌, ℕ, ◌+◌, List, Option, Some, option_map, slice_get, length}
use Rattle.cx_bits.specs.BitVector.{BitVector}
use Rattle.cx_vnets.specs.declared.codes.Code.{Code}
use Rattle.cx_vnets.specs.declared.codes.NetPosition.{NetPosition}
use Rattle.cx_vnets.specs.declared.nets.Nets.{Nets}
use Rattle.cx_vnets.specs.declared.nets.Stored.{Stored}
use Rattle.cx_vnets.specs.declared.nets.Driver.TheVariants.{Tied, Given}
use Rattle.cx_vnets.specs.Arrays.{array_width, IsEven}
use Rattle.cx_vnets.specs.Codes.{code_width}

abbrev pub width_at : List BitVector → ℕ → Option ℕ
width_at values f = option_map (λ v. v.width) (slice_get values f)

-- the width of a code of an instance
abbrev pub width_in : Stored → NetPosition → Code → Option ℕ
width_in s p c = code_width (λ k. width_at s.nets.items (p.nets + k)) (λ a. array_width s.arrays.items (p.arrays + a)) c

-- there is a stored value for each net, and what drives a net is there and has its width
pub record Fits (n : Nets) (s : Stored) : Type 0 where
  pub long : length n.drivers.items ≡ length s.nets.items
  pub even : IsEven s.arrays.items
  pub tied : (f g : ℕ) → slice_get n.drivers.items f ≡ Some (Tied g) → width_at s.nets.items g ≡ width_at s.nets.items f
  pub given : (f c : ℕ) (p : NetPosition) → slice_get n.drivers.items f ≡ Some (Given c p)
      → (code : Code) × (slice_get n.codes.items c ≡ Some code) × (width_in s p code ≡ width_at s.nets.items f)
