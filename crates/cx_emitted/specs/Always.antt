-- THAT A SOURCE DOES WHAT THE DESIGN DOES from any power-up state, run after run, with waits between.
use Rattle.std.specs.Prelude.{◌≡◌, ◌≢◌, ℕ, Bool, List, if◌then◌else◌}
use Rattle.cx_text.specs.Loading.{PlainMemory, FitsRows, words_loaded}
use Rattle.cx_meaning.specs.Answers.{End, More}
use Rattle.cx_meaning.specs.Designs.{PlainDesign}
use Rattle.cx_meaning.specs.Instances as instances
use Rattle.cx_meaning.specs.Instances.{tree_of, start, words_of}
use Rattle.cx_rules.specs.Externals.{external_rows}
use Rattle.cx_vtree.specs.Plain.{PlainSource}
use Rattle.cx_vtree.specs.InstanceTree.{instances_of}
use Rattle.cx_vtree.specs.Meaning.{State, Moment, Look}
use Rattle.cx_vtree.specs.Edges.{state_after}
use Rattle.cx_vtree.specs.SimRun as text
use Rattle.cx_vtree.specs.SimRun.{Outcome, DoneAt, NotDone, IsWhole, is_done, RunsFrom}
use Rattle.cx_emitted.specs.Power.{HasPower, after_power}
use Rattle.cx_emitted.specs.Scripts.{Stay, Passes}
use Rattle.cx_emitted.specs.Stays.{run_from, Stays}

-- a cycle without reset
abbrev pub in_cycle : Bool → State → Moment
in_cycle go s = record { state = s; reset = 0; go = if go then 1 else 0 }

-- ONE CYCLE OF A SOURCE, in which each net has a value
pub record SourceCycle (source : PlainSource) (go : Bool) (s : State) (done : Bool) (next : State) : Type 0 where
  pub look : Look
  pub whole : IsWhole (instances_of source) (in_cycle go s) look
  pub shows : is_done look ≡ done
  pub leads : state_after (instances_of source) (in_cycle go s) look ≡ next

-- a run comes to done in a cycle, or not within so many, and never to a net without a value
pub data HasAnswer (runs : ℕ → Outcome → Type 0) (last : ℕ) : Type 0 where
  done_in : (cycle : ℕ) (left : List (List ℕ)) → runs last (DoneAt cycle left) → HasAnswer runs last
  not_yet : runs last NotDone → HasAnswer runs last

-- THE RUNS ARE THOSE OF MAIN from a state of the design, for all budgets
pub record RunsAsMain (d : PlainDesign) (s : instances.State) (runs : ℕ → Outcome → Type 0) : Type 0 where
  -- where main ends after some turns, `done` is 1 for the first time in the cycle of that number, with the words of that end
  pub ends : (budget turns : ℕ) (after : instances.State) → run_from d s budget ≡ End after turns
      → runs budget (DoneAt turns (words_of (tree_of d) after))
  -- where `done` comes in a cycle, main with as many turns has ended or has a fault
  pub ends_only : (budget cycle : ℕ) (left : List (List ℕ)) → runs budget (DoneAt cycle left)
      → run_from d s cycle ≢ More
  pub never_stuck : (budget : ℕ) → HasAnswer runs budget

-- BEHIND A SCRIPT from a first state: the external memories hold the words of the design's state, and the next run is main from it
pub record IsAt (d : PlainDesign) (source : PlainSource) (first : State) (stays : List Stay)
    (s : instances.State) : Type 0 where
  pub now : State
  pub passes : Passes (SourceCycle source) first stays now
  pub words : text.words_of source now ≡ words_of (tree_of d) s
  pub runs : RunsAsMain d s (λ last o. RunsFrom source now 0 last o)

-- A SOURCE REALISES A DESIGN ALWAYS: from any power-up state, whatever go is and whatever stands on the nets in the
-- cycle of the edge with reset, it passes every script that the design passes, and is then where the design is
abbrev pub RealisesAlways : PlainDesign → PlainSource → Type 0
RealisesAlways d source =
    (memories : List PlainMemory) → FitsRows (external_rows d) memories
    → (power : State) → HasPower source (words_loaded memories) power → (go : ℕ) (nets : Look)
    → (stays : List Stay) (s : instances.State) → Stays d (start (tree_of d) (words_loaded memories)) stays s
    → IsAt d source (after_power source go nets power) stays s
