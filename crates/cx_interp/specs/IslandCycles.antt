-- The cycles of an island of an instance, by its samples.
use Rattle.std.specs.Prelude.{◌≡◌, ℕ, List}
use Rattle.cx_meaning.specs.Designs.{PlainDesign, PlainForm}
use Rattle.cx_meaning.specs.Instances.{Path, State, part_of, instance_at, tree_of, IsSettled}
use Rattle.cx_meaning.specs.Active.{nothing}
use Rattle.cx_meaning.specs.Sights.{seen}
use Rattle.cx_laws.specs.Samples.{Samples, says, samples_after}
use Rattle.cx_laws.specs.SampledIslands.{sampled_turn, sampled_from}
use Rattle.cx_interp_islands.specs.Rooms.{samples_of}
use Rattle.cx_state.specs.Tables.{IsNumber}
use Rattle.cx_state.specs.States.{PlainInstance, inputs_held, IsStateOf, StandsFor, under_path, put_path}
use Rattle.cx_turns.specs.declared.machine.Machine.{Machine}
use Rattle.cx_turns.specs.declared.turns.Turn.{Turn}
use Rattle.cx_turns.specs.Groups.{Driving}
use Rattle.cx_turns.specs.Turns.{IsBusy, TellsTurn}
use Rattle.cx_interp.specs.Doings.{Doing}

abbrev pub samples_in : Machine → Samples
samples_in machine = samples_of machine.room.samples.items

-- an island of so many cycles, from these samples on
abbrev pub sampled_does : PlainForm → ℕ → Samples → Doing
sampled_does form count first i held s m = sampled_from i held form count 0 first s m

-- CYCLE t of an island in instance n, from samples to the next, in each state that differs from a settled one in driven cells alone
pub record CycleTaken (d : PlainDesign) (old new : List PlainInstance) (n : ℕ) (form : PlainForm)
    (driving : Driving) (t : ℕ) (kept next : Samples) (turn : Turn) : Type 0 where
  pub tells : (path : Path) (s now : State) → IsNumber d n path → IsSettled (tree_of d) s
      → IsBusy (driving (instance_at (tree_of d) path)) (under_path path s) now
      → StandsFor (tree_of d) old (put_path path now s)
      → (next ≡ samples_after (part_of (instance_at (tree_of d) path))
      (says (seen (instance_at (tree_of d) path) (inputs_held old n) nothing now)) t form kept)
      × TellsTurn d path s old new (driving (instance_at (tree_of d) path)) turn
      (sampled_turn (instance_at (tree_of d) path) (inputs_held old n) form t next now)
  pub fits : IsStateOf d new
