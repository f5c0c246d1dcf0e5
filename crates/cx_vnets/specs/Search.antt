-- What a search for values tells.
use Rattle.std.specs.Prelude.{◌≡◌, ℕ, ◌<◌, ◌≢◌, Bool, true, false, List, Some, get_or, slice_get, length}
use Rattle.cx_bits.specs.BitVector.{BitVector}
use Rattle.cx_vnets.specs.declared.marks.NetMark.{NetMark}
use Rattle.cx_vnets.specs.declared.marks.NetMark.TheVariants.{Unseen, Open, Known}
use Rattle.cx_vnets.specs.declared.nets.Nets.{Nets}
use Rattle.cx_vnets.specs.declared.nets.Stored.{Stored}
use Rattle.cx_vnets.specs.Fits.{width_at}
use Rattle.cx_vnets.specs.Values.{HasValue}

abbrev pub mark_at : List NetMark → ℕ → NetMark
mark_at marks f = get_or marks f Unseen

abbrev pub no_bits : BitVector
no_bits = record { width = 0; value = 0 }

abbrev pub value_at : List BitVector → ℕ → BitVector
value_at values f = get_or values f no_bits

-- the same nets have values, and these the same widths
abbrev pub SameWidths : List BitVector → List BitVector → Type 0
SameWidths values others = (f : ℕ) → width_at values f ≡ width_at others f

-- between two searches: each known value is right, and no net is open
pub record Ready (n : Nets) (s : Stored) (marks : List NetMark) (values : List BitVector) : Type 0 where
  pub long : length marks ≡ length n.drivers.items
  pub widths : SameWidths values s.nets.items
  pub right : (f : ℕ) → mark_at marks f ≡ Known → HasValue n s f (value_at values f)
  pub closed : (f : ℕ) → mark_at marks f ≢ Open

-- after a search from the root: its value is known, or it has none
abbrev pub Visited : Nets → Stored → ℕ → List NetMark → List NetMark → List BitVector → Bool → Type 0
Visited n s root old marks values true =
    Ready n s marks values × (mark_at marks root ≡ Known) × ((f : ℕ) → mark_at old f ≡ Known → mark_at marks f ≡ Known)
Visited n s root old marks values false = SameWidths values s.nets.items × ((v : BitVector) → HasValue n s root v → ⊥)

abbrev pub AllUnseen : List NetMark → Type 0
AllUnseen marks = (f : ℕ) → f < length marks → mark_at marks f ≡ Unseen

-- each net has its value
abbrev pub AllHave : Nets → Stored → List BitVector → Type 0
AllHave n s values = (f : ℕ) → f < length n.drivers.items → HasValue n s f (value_at values f)

-- each net is marked as known
abbrev pub AllKnown : List NetMark → List BitVector → Type 0
AllKnown marks values = (f : ℕ) → f < length values → slice_get marks f ≡ Some Known

-- the net has no value, and each before it has one
pub record IsFirstWithout (n : Nets) (s : Stored) (f : ℕ) : Type 0 where
  pub there : f < length n.drivers.items
  pub earlier_have : (g : ℕ) → g < f → (v : BitVector) × HasValue n s g v
  pub no_value : (v : BitVector) → HasValue n s f v → ⊥
