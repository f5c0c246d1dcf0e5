-- The ports of a cell by their sides, and what stands at those that a cycle looks at.
use Rattle.std.specs.Prelude.{◌≡◌, ◌≢◌, ◌<◌, ℕ, zero, suc, Bool, true, false, List, [], ◌∷◌, Some, if◌then◌else◌}
use Rattle.cx_bits.specs.BitVector.{BitVector}
use Rattle.cx_prim.specs.declared.ports.Side.{Side}
use Rattle.cx_prim.specs.declared.ports.Side.TheVariants.{Enable, Plain}
use Rattle.cx_prim.specs.Rows.{Inputs, input}
use Rattle.cx_meaning.specs.declared.sights.Seen.{Seen}
use Rattle.cx_meaning.specs.declared.sights.Seen.TheVariants.{Value}
use Rattle.cx_meaning.specs.Cycles.{kind_of}
use Rattle.cx_eval_cycle.specs.declared.looking.CellStop.{CellStop}

-- whether a side is that of the enabling ports, or that of the plain inputs
abbrev pub is_side : Side → Side → Bool
is_side Enable Enable = true
is_side Plain Plain = true
is_side _ _ = false

-- THE NUMBERS of the ports that pass a test, ascending, of so many ports from one on
abbrev pub numbers_from : (ℕ → Bool) → ℕ → ℕ → List ℕ
numbers_from test p zero = []
numbers_from test p (suc n) = if test p then p ∷ numbers_from test (suc p) n else numbers_from test (suc p) n

abbrev pub AreNumbered : (ℕ → Bool) → ℕ → List ℕ → Type 0
AreNumbered test count numbers = numbers ≡ numbers_from test 0 count

-- a port is seen as a value
pub record IsValue (seen : Seen) : Type 0 where
  pub value : BitVector
  pub is : seen ≡ Value value

-- and the value stands in its place
pub record Stands (look : ℕ → Seen) (inputs : Inputs) (p : ℕ) : Type 0 where
  pub value : BitVector
  pub seen : look p ≡ Value value
  pub at : input inputs p ≡ Some value

-- so do all ports before one that pass a test
abbrev pub AllStand : (ℕ → Seen) → (ℕ → Bool) → ℕ → Inputs → Type 0
AllStand look test count inputs = (p : ℕ) → p < count → test p ≡ true → Stands look inputs p

-- what stood at ports still does
abbrev pub KeepStanding : (ℕ → Seen) → Inputs → Inputs → Type 0
KeepStanding look old new = (p : ℕ) → Stands look old p → Stands look new p

-- a port is seen as no value, which stops its cell
pub record IsLack (look : ℕ → Seen) (port : ℕ) (stop : CellStop) : Type 0 where
  pub at : stop.port ≡ port
  pub kind : stop.kind ≡ kind_of (look port)
  pub no_value : (b : BitVector) → look port ≢ Value b

-- a cell stops at the first of so many ports that passes a test and is seen as no value
pub record StopsAt (look : ℕ → Seen) (test : ℕ → Bool) (count : ℕ) (stop : CellStop) : Type 0 where
  pub within : stop.port < count
  pub wanted : test stop.port ≡ true
  pub lack : IsLack look stop.port stop
  pub earlier : (p : ℕ) → p < stop.port → test p ≡ true → IsValue (look p)
