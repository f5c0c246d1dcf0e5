-- A run from reset.
use Rattle.std.specs.Prelude.{◌≡◌, ℕ, suc, ◌+◌, ◌==◌, Bool, true, false, not, List, [], Option, Some, None, IsSome, map, length, slice_set, if◌then◌else◌}
use Rattle.cx_bits.specs.BitVector.{BitVector}
use Rattle.cx_vnets.specs.declared.nets.Stored.{Stored}
use Rattle.cx_vnets.specs.Edges.{SetsFit}
use Rattle.cx_vnets.specs.Fits.{width_at, Fits}
use Rattle.cx_vnets.specs.Search.{value_at, SameWidths, AllHave, IsFirstWithout}
use Rattle.cx_vnets.specs.Stores.{PlainWords, plain_words, StoresFit}
use Rattle.cx_vnets.specs.declared.machines.Machine.{Machine}
use Rattle.cx_vnets.specs.declared.machines.Bench.{Bench}
use Rattle.cx_vnets.specs.declared.runs.RunAnswer.{RunAnswer}
use Rattle.cx_vnets.specs.declared.runs.RunAnswer.TheVariants.{Done, Loop, More}
use Rattle.cx_vnets.specs.Machines.{IsAfter}

abbrev pub bit : Bool → BitVector
bit one = record { width = 1; value = if one then 1 else 0 }

-- what is stored with the inputs of the cycle of the edge with reset, or of one after it
pub record WithInputs (m : Machine) (reset : Bool) (before after : Stored) : Type 0 where
  pub nets : after.nets.items ≡ slice_set (slice_set before.nets.items m.reset (bit reset)) m.go (bit (not reset))
  pub arrays : after.arrays.items ≡ before.arrays.items

-- the machine fits what is stored, and the bench has room for it
pub record IsReady (m : Machine) (s : Stored) (b : Bench) : Type 0 where
  pub fits : Fits m.nets s
  pub resets : SetsFit m.nets.codes.items s.nets.items s.arrays.items m.resets.items
  pub sets : SetsFit m.nets.codes.items s.nets.items s.arrays.items m.sets.items
  pub stores : StoresFit m.nets.codes.items s.nets.items s.arrays.items m.stores.items
  pub reset : width_at s.nets.items m.reset ≡ Some 1
  pub go : width_at s.nets.items m.go ≡ Some 1
  pub done : IsSome (width_at s.nets.items m.done)
  pub marks : length b.marks.items ≡ length m.nets.drivers.items
  pub stack : length b.stack.items ≡ length m.nets.drivers.items
  pub writes : length b.writes.items ≡ length m.stores.items
  pub values : SameWidths b.values.items s.nets.items

abbrev pub is_done : Machine → List BitVector → Bool
is_done m values = (value_at values m.done).value == 1

pub data Outcome : Type 0 where
  -- with the arrays of that cycle
  DoneIn : (cycle : ℕ) (arrays : List PlainWords) → Outcome
  LoopOf : (net : ℕ) → Outcome
  NotDone : Outcome

abbrev pub outcome_of : RunAnswer → Stored → Outcome
outcome_of (Done t) s = DoneIn t (map plain_words s.arrays.items)
outcome_of (Loop f) s = LoopOf f
outcome_of More s = NotDone

-- the values of all nets
pub record AreValues (m : Machine) (s : Stored) (values : List BitVector) : Type 0 where
  pub widths : SameWidths values s.nets.items
  pub right : AllHave m.nets s values

-- what a cycle that was looked at told: the answer of the run, or that `done` is 0
abbrev pub IsLooked : Machine → Stored → ℕ → List BitVector → Option RunAnswer → Type 0
IsLooked m s cycle values None = AreValues m s values × (is_done m values ≡ false)
IsLooked m s cycle values (Some (Loop f)) = IsFirstWithout m.nets s f
IsLooked m s cycle values (Some (Done t)) = (t ≡ cycle) × AreValues m s values × (is_done m values ≡ true)
IsLooked m s cycle values (Some More) = ⊥

-- the cycles from `cycle` on, of which `left` may follow: a loop is looked for before `done`
pub data FlatFrom (m : Machine) : Stored → ℕ → ℕ → Outcome → Type 0 where
  loops : {s : Stored} {cycle left f : ℕ} → IsFirstWithout m.nets s f → FlatFrom m s cycle left (LoopOf f)
  ends : {s : Stored} {cycle left : ℕ} (values : List BitVector) → AreValues m s values
      → is_done m values ≡ true → FlatFrom m s cycle left (DoneIn cycle (map plain_words s.arrays.items))
  spent : {s : Stored} {cycle : ℕ} (values : List BitVector) → AreValues m s values
      → is_done m values ≡ false → FlatFrom m s cycle 0 NotDone
  goes_on : {s : Stored} {cycle left : ℕ} {o : Outcome} (values : List BitVector) (next : Stored)
      → AreValues m s values → is_done m values ≡ false
      → IsAfter m.nets.codes.items m.sets.items m.stores.items values s next
      → FlatFrom m next (cycle + 1) left o → FlatFrom m s cycle (suc left) o

-- the run in which the cycles 0 to `last` may be looked at. The cycle of the edge with reset is looked at for a loop, and not for `done`.
pub data FlatRun (m : Machine) (start : Stored) (last : ℕ) : Outcome → Type 0 where
  loops_in_reset : {f : ℕ} (s : Stored) → WithInputs m true start s → IsFirstWithout m.nets s f
      → FlatRun m start last (LoopOf f)
  after_reset : {o : Outcome} (s next first : Stored) (values : List BitVector)
      → WithInputs m true start s → AreValues m s values
      → IsAfter m.nets.codes.items m.resets.items [] values s next → WithInputs m false next first
      → FlatFrom m first 0 last o → FlatRun m start last o
