-- What stands at so many ports of a cell.
use Rattle.std.specs.Prelude.{◌≡◌, ℕ, zero, suc, Bool, true, false, List, [], Option, Some, None, Result, Ok, Err, slice_get}
use Rattle.cx_bits.specs.BitVector.{BitVector}
use Rattle.cx_meaning.specs.declared.ports.PortRef.TheVariants.{Cell}
use Rattle.cx_meaning.specs.declared.sights.Seen.{Seen}
use Rattle.cx_meaning.specs.declared.sights.Seen.TheVariants.{Value, Conflict, Undefined}
use Rattle.cx_meaning.specs.Sights.{Look, Gathered, Given, gather_port}
use Rattle.cx_prim.specs.declared.ports.PortRow.{PortRow}

-- the ports of a cell as they are seen
abbrev pub ports_seen : Look → ℕ → ℕ → Seen
ports_seen look c p = look (Cell c p)

-- the ports from one on, by their count
abbrev pub gather_all : (ℕ → Seen) → (ℕ → Bool) → ℕ → ℕ → Gathered
gather_all look wanted p zero = Given []
gather_all look wanted p (suc n) = gather_port (wanted p) p (look p) (gather_all look wanted (suc p) n)

-- what a port is given as: nothing where it is not wanted, its value, or what it is that is no value
abbrev pub entry_of : Bool → Seen → Result (Option BitVector) Seen
entry_of false x = Ok None
entry_of true (Value b) = Ok (Some b)
entry_of true Conflict = Err Conflict
entry_of true Undefined = Err Undefined

-- values are as wide as their ports, all of them or the wanted ones
abbrev pub AreWide : (ℕ → Seen) → List PortRow → Type 0
AreWide look ports =
    (n : ℕ) (port : PortRow) (b : BitVector) → slice_get ports n ≡ Some port → look n ≡ Value b
    → b.width ≡ port.width

abbrev pub WantedAreWide : (ℕ → Bool) → (ℕ → Seen) → List PortRow → Type 0
WantedAreWide wanted look ports =
    (n : ℕ) (port : PortRow) (b : BitVector) → slice_get ports n ≡ Some port → wanted n ≡ true
    → look n ≡ Value b → b.width ≡ port.width
