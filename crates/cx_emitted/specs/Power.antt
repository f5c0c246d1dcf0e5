-- A run from a power-up state: registers hold anything, and anything stands on the nets in the cycle of the edge with reset.
use Rattle.std.specs.Prelude.{◌≡◌, ◌≢◌, ℕ, List}
use Rattle.cx_vtree.specs.Plain.{PlainSource}
use Rattle.cx_vtree.specs.InstanceTree.{instances_of}
use Rattle.cx_vtree.specs.Meaning.{State, Moment, Look}
use Rattle.cx_vtree.specs.Edges.{state_after}
use Rattle.cx_vtree.specs.SimRun.{Outcome, LoopAt, loaded_word, RunsFrom, SimRun}
use Rattle.cx_emitted.specs.Resets.{IsReset}

-- A POWER-UP STATE: the external memories have the loaded words, and all other arrays zeros. Of registers nothing is said.
abbrev pub HasPower : PlainSource → List (List ℕ) → State → Type 0
HasPower source loaded power =
    (i : ℕ) (name : List ℕ) (index : ℕ)
    → power.word i name index ≡ loaded_word (instances_of source) source.externals loaded i name index

-- a cycle of the edge with reset
abbrev pub held_in_reset : ℕ → State → Moment
held_in_reset go s = record { state = s; reset = 1; go = go }

-- the state behind the edge with reset, where the look stands on the nets in its cycle, known or not, right or wrong
abbrev pub after_power : PlainSource → ℕ → Look → State → State
after_power source go look power = state_after (instances_of source) (held_in_reset go power) look

-- THE RUN FROM POWER-UP: one edge with reset, whatever go is and whatever stands on the nets, and then cycles with go
pub record PowerRun (source : PlainSource) (power : State) (last : ℕ) (o : Outcome) : Type 0 where
  pub runs : (go : ℕ) (look : Look) → RunsFrom source (after_power source go look power) 0 last o

-- no net without a value ended the run
abbrev pub IsNoLoop : Outcome → Type 0
IsNoLoop o = (i k : ℕ) → o ≢ LoopAt i k

-- POWER IS FORGOTTEN: each power-up state leads to what zeros lead to
abbrev pub PowerIsForgotten : Type 0
PowerIsForgotten =
    (source : PlainSource) (loaded : List (List ℕ)) (last : ℕ) (o : Outcome) → IsReset source
    → SimRun source loaded last o → IsNoLoop o
    → (power : State) → HasPower source loaded power → PowerRun source power last o

-- and behind an edge with reset it is a power-up state again
abbrev pub PowerStays : Type 0
PowerStays =
    (source : PlainSource) (loaded : List (List ℕ)) (power : State) (go : ℕ) (look : Look)
    → HasPower source loaded power
    → HasPower source loaded (after_power source go look power)
