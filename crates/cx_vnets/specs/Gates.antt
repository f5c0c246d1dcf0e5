-- Nets that are 0 where another net, their gate, is 0.
use Rattle.std.specs.Prelude.{◌≡◌, ◌≢◌, ℕ, ◌+◌, ◌<◌, false, List, Option, Some, length, slice_get}
use Rattle.cx_bits.specs.BitVector.{BitVector}
use Rattle.cx_vtree.specs.declared.operators.Operator.TheVariants.{And}
use Rattle.cx_vnets.specs.declared.codes.Code.{Code}
use Rattle.cx_vnets.specs.declared.codes.Code.TheVariants.{Binary'}
use Rattle.cx_vnets.specs.declared.codes.NetPosition.{NetPosition}
use Rattle.cx_vnets.specs.declared.nets.Nets.{Nets}
use Rattle.cx_vnets.specs.declared.nets.Driver.TheVariants.{Given}
use Rattle.cx_vnets.specs.Carriers.{origin_at}
use Rattle.cx_vnets.specs.Stale.{is_stale}
use Rattle.cx_vnets.specs.Watches.{IsNet}

-- the gate of a code is the first operand of an `&`
abbrev pub IsGate : Code → ℕ → Type 0
IsGate (Binary' op p a q b) k = (op ≡ And) × IsNet a k
IsGate c k = ⊥

-- a net has another for its gate, or one that carries the value of that
pub record HasGate (n : Nets) (origins : List (Option ℕ)) (f gate : ℕ) : Type 0 where
  pub number : ℕ
  pub place : NetPosition
  pub code : Code
  pub local : ℕ
  pub driver : slice_get n.drivers.items f ≡ Some (Given number place)
  pub stands : slice_get n.codes.items number ≡ Some code
  pub is_gate : IsGate code local
  pub there : origin_at origins (place.nets + local) ≡ gate

-- a net that the table gives a gate has it
abbrev pub GatesStand : Nets → List (Option ℕ) → List (Option ℕ) → Type 0
GatesStand n origins gates = (f gate : ℕ) → slice_get gates f ≡ Some (Some gate) → HasGate n origins f gate

-- the net is 0
pub record IsZero (values : List BitVector) (net : ℕ) : Type 0 where
  pub value : BitVector
  pub stands : slice_get values net ≡ Some value
  pub zero : value.value ≡ 0

-- the net has a byte, which is not 1
abbrev pub IsKnownZero : List ℕ → ℕ → Type 0
IsKnownZero nonzero net = (net < length nonzero) × (is_stale nonzero net ≡ false)

-- each net that is known to be 0 is, where it carries no other's value
abbrev pub ZerosStand : List (Option ℕ) → List ℕ → List BitVector → Type 0
ZerosStand origins nonzero values =
    (net : ℕ) → origin_at origins net ≡ net → IsKnownZero nonzero net → IsZero values net

-- the net has a gate, which is another than the one that changed, and that is known to be 0
pub record IsShut (gates : List (Option ℕ)) (nonzero : List ℕ) (changed f : ℕ) : Type 0 where
  pub gate : ℕ
  pub has : slice_get gates f ≡ Some (Some gate)
  pub other : gate ≢ changed
  pub known : IsKnownZero nonzero gate
