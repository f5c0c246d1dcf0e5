-- The inputs of a call.
use Rattle.std.specs.Prelude.{◌≡◌, ◌≢◌, ℕ, List, Option, Some}
use Rattle.cx_meaning.specs.declared.sights.Seen.{Seen}
use Rattle.cx_meaning.specs.Designs.{PlainDesign}
use Rattle.cx_meaning.specs.Instances.{Path, State, instance_at, tree_of}
use Rattle.cx_state.specs.Tables.{IsNumber}
use Rattle.cx_state.specs.States.{PlainInstance, inputs_held, StandsFor, under_path}
use Rattle.cx_orders.specs.Steps.{held_as, inputs_for, inputs_seen}
use Rattle.cx_weave.specs.Strands.{InputsFit}

-- the inputs of an instance are held as they are listed, and nothing else changes
pub record HoldsList (d : PlainDesign) (old new : List PlainInstance) (child : ℕ) (inputs : List Seen) : Type 0 where
  pub stands : (s : State) → StandsFor (tree_of d) old s → StandsFor (tree_of d) new s
  pub own : inputs_held new child ≡ held_as inputs
  pub others : (m input : ℕ) → m ≢ child → inputs_held new m input ≡ inputs_held old m input

-- those of a call are held: as they were, or as they are seen under the group that calls the child
pub record HoldsAs (d : PlainDesign) (old new : List PlainInstance) (n g c child : ℕ)
    (before : Option (List Seen)) (inputs : List Seen) : Type 0 where
  pub holds : HoldsList d old new child inputs
  pub seen : (path : Path) (s : State) → IsNumber d n path → StandsFor (tree_of d) old s
      → inputs ≡ inputs_for before
      (inputs_seen (instance_at (tree_of d) path) (inputs_held old n) g c (under_path path s))
  pub fits : InputsFit d n c (Some inputs)
