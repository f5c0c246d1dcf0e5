-- What static ifs see, and what may be asked.
use Rattle.std.specs.Prelude.{◌≡◌, ℕ, ◌<◌, List, [], Option, Some, None, length}
use Rattle.cx_meaning.specs.declared.ports.PortRef.{PortRef}
use Rattle.cx_meaning.specs.Designs.{PlainDesign}
use Rattle.cx_meaning.specs.Instances.{State, instance_at, paths_of, tree_of}
use Rattle.cx_meaning.specs.Active.{nothing}
use Rattle.cx_meaning.specs.Cycles.{Fault, fault_at}
use Rattle.cx_meaning.specs.Sights.{Look, seen}
use Rattle.cx_design.specs.PlainDesigns.{plain_design}
use Rattle.cx_state.specs.States.{PlainInstance, plain_state, inputs_held, IsStateOf, StandsFor, under_path}
use Rattle.cx_state.specs.ReadStates.{state_in}
use Rattle.cx_eval.specs.Evaluated.{IsPort}
use Rattle.cx_turns.specs.declared.sights.Sight.{Sight}
use Rattle.cx_turns.specs.declared.sights.Unclear.{Unclear}
use Rattle.cx_eval_network.specs.Networks.{path_at}

-- the fault of a port that is no value, from its instance on
abbrev pub unclear_fault : Option Unclear → Option Fault
unclear_fault None = None
unclear_fault (Some u) = Some (fault_at u.kind u.port)

-- what the ports of instance n are seen as under the continuous assignments alone, in the state that is read off its rows
abbrev pub look_in : PlainDesign → List PlainInstance → ℕ → Look
look_in d rows n =
    seen (instance_at (tree_of d) (path_at d n)) (inputs_held rows n) nothing
    (under_path (path_at d n) (state_in (tree_of d) rows))

abbrev pub sight_look : Sight → Look
sight_look sight = look_in (plain_design sight.evaluator) (plain_state sight.state) sight.instance

-- all but what was found unclear
abbrev pub sight_kept : Sight → Sight
sight_kept sight = record sight { unclear = None }

-- a port of an instance may be asked in a state of its design
pub record MayAsk (d : PlainDesign) (rows : List PlainInstance) (n : ℕ) (port : PortRef) : Type 0 where
  pub state : IsStateOf d rows
  pub stands : StandsFor (tree_of d) rows (state_in (tree_of d) rows)
  pub instance : n < length (paths_of (tree_of d))
  pub asked : IsPort d n port

abbrev pub CanAsk : Sight → PortRef → Type 0
CanAsk sight port = MayAsk (plain_design sight.evaluator) (plain_state sight.state) sight.instance port
