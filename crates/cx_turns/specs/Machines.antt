-- What is known of a plan and a machine throughout a run.
use Rattle.std.specs.Prelude.{◌≡◌, ℕ, ◌<◌, ◌^◌, List, Option, Some, None, length}
use Rattle.cx_meaning.specs.Designs.{PlainDesign, PlainForm, PlainStatement, Placed, PlainStatements}
use Rattle.cx_text.specs.declared.places.Place.{Place}
use Rattle.cx_meaning.specs.Instances.{Path, part_of, instance_at, paths_of, tree_of}
use Rattle.cx_text.specs.Members.{In}
use Rattle.cx_rules.specs.Accepted.{IsAccepted}
use Rattle.cx_rules.specs.Wellformed.{IsDesign}
use Rattle.cx_rules.specs.Items.{Visited, Dynamic, visit, visit_all, statements_in}
use Rattle.cx_rules.specs.Flat.{IsFlat}
use Rattle.cx_design.specs.PlainDesigns.{plain_design}
use Rattle.cx_state.specs.Tables.{IsNumber, IsTable}
use Rattle.cx_state.specs.States.{PlainInstance, plain_state, IsStateOf}
use Rattle.cx_turns.specs.declared.plan.Plan.{Plan}
use Rattle.cx_turns.specs.declared.machine.Machine.{Machine}
use Rattle.cx_turns.specs.GroupRows.{AreGroups}
use Rattle.cx_turns.specs.Rooms.{HasRoom}

abbrev pub design_of : Plan → PlainDesign
design_of plan = plain_design plan.design.now

abbrev pub rows_of : Machine → List PlainInstance
rows_of machine = plain_state machine.sight.state

-- a plan of an accepted design without static components, whose instances have numbers of 32 bits
pub record IsPlan (plan : Plan) : Type 0 where
  pub flat : IsFlat (design_of plan)
  pub accepted : IsAccepted (design_of plan)
  pub design : IsDesign (design_of plan)
  pub table : IsTable (design_of plan) plan.table.rows.items plan.table.children.items
  pub groups : AreGroups (design_of plan) plan.table.rows.items plan.groups.items
  pub few : length (paths_of (tree_of (design_of plan))) < 2 ^ 32

-- a machine at a state of the plan's design, with room for its islands
pub record IsAt (plan : Plan) (machine : Machine) : Type 0 where
  pub evaluator : machine.sight.evaluator ≡ plan.design.now
  pub state : IsStateOf (design_of plan) (rows_of machine)
  pub room : HasRoom (design_of plan) machine.room

-- a number of an instance
abbrev pub IsInstance : PlainDesign → ℕ → Type 0
IsInstance d n = n < length (paths_of (tree_of d))

-- statements of the dynamic control of instance n
abbrev pub StandsIn : PlainDesign → ℕ → PlainStatement → Type 0
StandsIn d n statement =
    (path : Path) (v : Visited) → IsNumber d n path → In (visit Dynamic statement) v
    → In (statements_in (part_of (instance_at (tree_of d) path))) v

abbrev pub StandIn : PlainDesign → ℕ → PlainStatements → Type 0
StandIn d n parts =
    (path : Path) (v : Visited) → IsNumber d n path → In (visit_all Dynamic parts) v
    → In (statements_in (part_of (instance_at (tree_of d) path))) v

-- a form of the dynamic control of instance n
abbrev pub FormStands : PlainDesign → ℕ → PlainForm → Type 0
FormStands d n form = (place : Place) × StandsIn d n (Placed form place)
