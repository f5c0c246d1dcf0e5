-- One run carries another: where the first ends, the other ends, at a pace, in a state that stands for the first one's. Nothing here
-- knows a leaf of control, a state or a fault.
use Rattle.std.specs.Prelude.{◌≡◌, ℕ, ◌≤◌}
use Rattle.cx_meaning.specs.Answers.{Answer, End, Fault, More, Meaning, Turn, Ends, Goes, Faults, Test, Holds, Fails, Unclear}
use Rattle.cx_rewrites.specs.Tallies.{Tally, plus, Counted}

-- how closely the other run keeps to the first
pub data Pace : Type 0 where
  -- where the first ends, it ends in at most as many turns
  NoLater : Pace
  -- where the first ends, it ends in as many turns
  InStep : Pace
  -- and it has the fault of the first in the same turn, and needs more turns where the first does
  Exact : Pace

-- it takes u turns where the first takes t
abbrev pub Keeps : Pace → ℕ → ℕ → Type 0
Keeps NoLater u t = u ≤ t
Keeps InStep u t = u ≡ t
Keeps Exact u t = u ≡ t

-- it has a budget of m turns where the first has n
abbrev pub Room : Pace → ℕ → ℕ → Type 0
Room NoLater n m = n ≤ m
Room InStep n m = n ≤ m
Room Exact n m = n ≡ m

-- what the exact pace alone promises
abbrev pub IfExact : Pace → Type 0 → Type 0
IfExact NoLater promise = Unit {0}
IfExact InStep promise = Unit {0}
IfExact Exact promise = promise

-- what a test says, says the other
abbrev pub TestCarried : {F G : Type 0} → Pace → (F → G) → Test F → Test G → Type 0
TestCarried pace faults Holds x = x ≡ Holds
TestCarried pace faults Fails x = x ≡ Fails
TestCarried pace faults (Unclear f) x = IfExact pace (x ≡ Unclear (faults f))

-- an idle turn of both keeps a relation of states
abbrev pub Rests : {S T : Type 0} → (Tally → S → T → Type 0) → (S → S) → (T → T) → Type 0
Rests {S} {T} R rest still = (before : Tally) (s : S) (z : T) → R before s z → R before (rest s) (still z)

-- the same state, whatever was counted
abbrev pub Same : {S : Type 0} → Tally → S → S → Type 0
Same counted s z = s ≡ z

-- R relates states by what has been counted until then; `faults` gives the other run's fault
module _ {S T F G : Type 0} (pace : Pace) (R : Tally → S → T → Type 0) (faults : F → G) where
  -- an answer and the other one, where so much was counted before the run and so much in it
  abbrev pub Carried : Tally → Tally → Answer S F → Answer T G → Type 0
  Carried before counted (End s t) x = (z : T) × (u : ℕ) × (x ≡ End z u) × Keeps pace u t × R (plus before counted) s z
  Carried before counted (Fault f t) x = IfExact pace (x ≡ Fault (faults f) t)
  Carried before counted More x = IfExact pace (x ≡ More)

  -- ONE MEANING CARRIES ANOTHER, from every two states that are related
  abbrev pub Carries : Counted S → Meaning S F → Meaning T G → Type 0
  Carries counts old other =
      (before : Tally) (s : S) (z : T) (n m : ℕ) → Room pace n m → R before s z
      → Carried before (counts s n) (old s n) (other z m)

  -- a turn in which so much is counted where it goes on
  abbrev pub TurnCarried : Tally → Tally → Turn S F → Turn T G → Type 0
  TurnCarried before one Ends x = x ≡ Ends
  TurnCarried before one (Goes s) x = (z : T) × (x ≡ Goes z) × R (plus before one) s z
  TurnCarried before one (Faults f) x = IfExact pace (x ≡ Faults (faults f))
