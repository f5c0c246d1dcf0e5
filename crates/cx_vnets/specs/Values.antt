-- The value of a net in one cycle.
use Rattle.std.specs.Prelude.{◌≡◌, ℕ, ◌+◌, Option, Some, None, option_and_then, slice_get}
use Rattle.cx_bits.specs.BitVector.{BitVector}
use Rattle.cx_vnets.specs.declared.codes.Code.{Code}
use Rattle.cx_vnets.specs.declared.codes.NetPosition.{NetPosition}
use Rattle.cx_vnets.specs.declared.nets.Nets.{Nets}
use Rattle.cx_vnets.specs.declared.nets.Stored.{Stored}
use Rattle.cx_vnets.specs.declared.nets.Driver.{Driver}
use Rattle.cx_vnets.specs.declared.nets.Driver.TheVariants.{Held, Tied, Given}
use Rattle.cx_vnets.specs.Arrays.{word_at}
use Rattle.cx_vnets.specs.Codes.{code_in}

-- a code of an instance, where `nets` is what is known of all nets
abbrev pub code_at : Stored → (ℕ → Option BitVector) → NetPosition → Code → Option BitVector
code_at s nets p c = code_in (λ k. nets (p.nets + k)) (λ a. word_at s.arrays.items (p.arrays + a)) c

abbrev pub driver_in : Nets → Stored → (ℕ → Option BitVector) → ℕ → Option Driver → Option BitVector
driver_in n s nets f None = None
driver_in n s nets f (Some Held) = slice_get s.nets.items f
driver_in n s nets f (Some (Tied g)) = nets g
driver_in n s nets f (Some (Given c p)) = option_and_then (code_at s nets p) (slice_get n.codes.items c)

-- one rule: a net has the value that what is known gives it
abbrev pub rule : Nets → Stored → (ℕ → Option BitVector) → ℕ → Option BitVector
rule n s nets f = driver_in n s nets f (slice_get n.drivers.items f)

-- a net has a value: by one rule from nets that have theirs
pub data HasValue (n : Nets) (s : Stored) : ℕ → BitVector → Type 0 where
  by_rule : {f : ℕ} {v : BitVector} (nets : ℕ → Option BitVector)
      → ((g : ℕ) (w : BitVector) → nets g ≡ Some w → HasValue n s g w) → rule n s nets f ≡ Some v → HasValue n s f v

-- what is known is so
abbrev pub IsRight : Nets → Stored → (ℕ → Option BitVector) → Type 0
IsRight n s nets = (g : ℕ) (w : BitVector) → nets g ≡ Some w → HasValue n s g w
