-- What the drivers of a statement make of one cycle in which control stands at it: its end wire, the next number of its region, the
-- other numbers, and the goes of groups.
use Rattle.std.specs.Prelude.{◌≡◌, ℕ, suc, ◌+◌, ◌<◌, Bool, false, List, Option, Some, if◌then◌else◌}
use Rattle.cx_bits.specs.BitVector.{BitVector}
use Rattle.cx_lockstep.specs.Worlds.{Control, At, Done, is_done}
use Rattle.cx_control.specs.Codings.{Coding, bank_code}
use Rattle.cx_net.specs.Nets.{ToRegister, ToHole, PlainNetDriver}
use Rattle.cx_net.specs.NetMeaning.{Node, NetAround}
use Rattle.cx_wiring.specs.Stands.{end_of}
use Rattle.cx_wiring.specs.Takings.{Says, takes}
use Rattle.cx_wiring_cycles.specs.Shown.{wide, Going, told}

module _ (groups : ℕ) (around : NetAround) (registers : ℕ → Option BitVector) (look : Node → Option BitVector) where
  -- a region that goes on comes to the number of the next place; one that is done is left to what is around it
  abbrev pub Moves : {P : Type 0} → Coding P → (region position r : ℕ) → List PlainNetDriver → Control P → Type 0
  Moves coding region position r ds (At p) =
      takes around registers look (ToRegister region) (Some (wide r)) ds ≡
      Some (wide (position + coding.number p))
  Moves coding region position r ds Done =
      (o : Option BitVector) → takes around registers look (ToRegister region) o ds ≡ o

  -- k is where control comes to, and next are the other numbers after the edge
  pub record Turns {P : Type 0} (coding : Coding P) (wire region position r : ℕ)
      (ds : List PlainNetDriver) (next : ℕ → ℕ) (goes : List Going) (k : Control P) : Type 0 where
    pub ends : Says around registers look (end_of wire) (is_done k)
    pub moves : Moves coding region position r ds k
    pub others : (n : ℕ) → n < coding.extra → next n ≡ bank_code coding k (suc n)
    pub goes_so : (g : ℕ) (o : Option BitVector)
        → takes around registers look (ToHole (groups + g)) o ds ≡ told g o goes

  -- what follows in the region, at its first place where the part before it ends now
  abbrev pub entered : {P : Type 0} → Control P → Option BitVector → Option BitVector → Option BitVector
  entered (At p) o later = o
  entered Done o later = later

  pub record Enters {P : Type 0} (coding : Coding P) (start : Control P) (wire region position : ℕ)
      (ds : List PlainNetDriver) (next : ℕ → ℕ) (now : Bool) : Type 0 where
    pub ends : Says around registers look (end_of wire) (if now then is_done start else false)
    pub moves : (o : Option BitVector) → takes around registers look (ToRegister region) o ds ≡
        (if now then entered start (Some (wide position)) o else o)
    pub silent : (g : ℕ) (o : Option BitVector) → takes around registers look (ToHole (groups + g)) o ds ≡ o
    pub rests : (n : ℕ) → n < coding.extra → next n ≡ 0
    pub at_first : (p : P) → start ≡ At p → coding.number p ≡ 0
    pub zeros_at : (p : P) → start ≡ At p → (j : ℕ) → coding.other p j ≡ 0
