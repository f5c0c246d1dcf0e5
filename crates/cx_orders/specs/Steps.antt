-- One turn of one leaf of open statements, the leaves numbered in source order from 0.
use Rattle.std.specs.Prelude.{ℕ, zero, suc, ◌-◌, Bool, true, false, nat_lt, List, [], ◌∷◌, ◌++◌, length, get_or, Option, Some, None}
use Rattle.cx_meaning.specs.declared.ports.PortRef.{PortRef}
use Rattle.cx_meaning.specs.declared.sights.Seen.{Seen}
use Rattle.cx_meaning.specs.declared.sights.Seen.TheVariants.{Undefined}
use Rattle.cx_meaning.specs.Designs.{PlainStatement, PlainStatements, no_statements, a_statement}
use Rattle.cx_meaning.specs.Instances.{Instance, part_of, instance_at, State, under, put}
use Rattle.cx_meaning.specs.Sights.{Held}
use Rattle.cx_meaning.specs.Cycles.{Fault}
use Rattle.cx_meaning.specs.Answers.{Turn, Ends, Goes, Faults, Test, Holds, Fails, Unclear}
use Rattle.cx_meaning.specs.Calls.{test, captures, fault_below, inputs_of_call}
use Rattle.cx_meaning.specs.Control.{form_drives, group_drives}
use Rattle.cx_orders.specs.Open.{Open, Idling, InGroup, Choosing, Testing, InIsland, Capturing, Closing, Waiting, InSeq, InPar, InLoop, InRepeat, InCall, Opens, no_arms, an_arm, leaves_of, open_statement}
use Rattle.cx_orders.specs.Leaves.{test_drives, rested, own_turn, own_capture, samples_now, own_island}

-- what a turn makes of what is open, and the state after it; or its fault
pub data Stepped (A : Type 0) : Type 0 where
  Now : (left : A) (after : State) → Stepped A
  Stops : (fault : Fault) → Stepped A

-- what is open of a statement around it
abbrev pub within : {A B : Type 0} → (A → B) → Stepped A → Stepped B
within f (Now left after) = Now (f left) after
within f (Stops fault) = Stops fault

-- a turn that is idle ends the leaf, and another leaves something open
abbrev pub turned : Turn State Fault → State → Open → Stepped (Option Open)
turned Ends idle later = Now None idle
turned (Goes after) idle later = Now (Some later) after
turned (Faults fault) idle later = Stops fault

-- the idle turn of a test, and what is open behind it
abbrev pub tested : Test Fault → State → Option Open → Option Open → Stepped (Option Open)
tested Holds idle taken other = Now taken idle
tested Fails idle taken other = Now other idle
tested (Unclear fault) idle taken other = Stops fault

-- behind a part of a seq comes the next one
abbrev pub seq_left : Instance → PlainStatements → Option Open → Option Open
seq_left i later (Some first) = Some (InSeq first later)
seq_left i no_statements None = None
seq_left i (a_statement next later) None = Some (InSeq (open_statement i next) later)

-- behind the body of a while comes its test, and behind a round of a repeat the next one
abbrev pub loop_left : PortRef → Option ℕ → PlainStatement → Option Open → Option Open
loop_left port comb body (Some run) = Some (InLoop run port comb body)
loop_left port comb body None = Some (Testing port comb body)

abbrev pub repeat_left : Instance → ℕ → PlainStatement → Option Open → Option Open
repeat_left i left body (Some run) = Some (InRepeat run left body)
repeat_left i zero body None = None
repeat_left i (suc left) body None = Some (InRepeat (open_statement i body) left body)

-- an arm that has ended is open no more, and a par ends with its last arm
abbrev pub arms_left : PlainStatement → Opens → Option Open → Opens
arms_left statement rest (Some arm) = an_arm statement arm rest
arms_left statement rest None = rest

abbrev pub par_left : Opens → Option Open
par_left no_arms = None
par_left (an_arm statement arm arms) = Some (InPar (an_arm statement arm arms))

-- behind the child of a call come the capture cycle, where registers are captured, and an idle turn
abbrev pub behind_child : Bool → ℕ → ℕ → Open
behind_child true g c = Capturing g c
behind_child false g c = Closing g

abbrev pub call_left : Instance → ℕ → ℕ → List Seen → Option Open → Option Open
call_left i g c inputs (Some child) = Some (InCall g c (Some inputs) child)
call_left i g c inputs None = Some (behind_child (captures i g) g c)

-- a turn of the child at a cell, as a turn of the instance
abbrev pub lift_step : ℕ → State → (Option Open → Option Open) → Stepped (Option Open) → Stepped (Option Open)
lift_step c s f (Now left own) = Now (f left) (put c own s)
lift_step c s f (Stops fault) = Stops (fault_below c fault)

-- the inputs of a call are seen in its first turn, as many as the component has, and held
abbrev pub first_inputs : Held → ℕ → List Seen
first_inputs held zero = []
first_inputs held (suc n) = first_inputs held n ++ held n ∷ []

abbrev pub inputs_seen : Instance → Held → ℕ → ℕ → State → List Seen
inputs_seen i held g c s = first_inputs (inputs_of_call i held g c s) (length (part_of (instance_at i (c ∷ []))).inputs)

abbrev pub inputs_for : Option (List Seen) → List Seen → List Seen
inputs_for (Some inputs) now = inputs
inputs_for None now = now

abbrev pub held_as : List Seen → Held
held_as inputs n = get_or inputs n Undefined

abbrev pub first_or : {A : Type 0} → Bool → A → A → A
first_or true a b = a
first_or false a b = b

-- A TURN OF LEAF k
abbrev mutual
  pub step : Instance → Held → Open → ℕ → State → Stepped (Option Open)
  step i held Idling k s = Now None s
  step i held (InGroup g) k s = turned (own_turn i held g s) (rested i (group_drives (part_of i) g) s) (InGroup g)
  step i held (Choosing port comb a b) k s =
      tested (test i held port comb s) (rested i (test_drives (part_of i) comb) s)
      (Some (open_statement i a)) (Some (open_statement i b))
  step i held (Testing port comb body) k s =
      tested (test i held port comb s) (rested i (test_drives (part_of i) comb) s)
      (Some (InLoop (open_statement i body) port comb body)) None
  step i held (InIsland form t zero h) k s = Now None (rested i (form_drives (part_of i) form) s)
  step i held (InIsland form t (suc left) h) k s =
      turned (own_island i held form t (samples_now i held form h t s) s) s
      (InIsland form (suc t) left (samples_now i held form h t s))
  step i held (Capturing g c) k s = turned (own_capture i held g c s) s (Closing g)
  step i held (Closing g) k s = Now None (rested i (group_drives (part_of i) g) s)
  step i held Waiting k s = Now (Some Waiting) s
  step i held (InSeq first later) k s = within (seq_left i later) (step i held first k s)
  step i held (InPar arms) k s = within par_left (step_arms i held arms k s)
  step i held (InLoop run port comb body) k s = within (loop_left port comb body) (step i held run k s)
  step i held (InRepeat run left body) k s = within (repeat_left i left body) (step i held run k s)
  step i held (InCall g c inputs child) k s =
      lift_step c s (call_left i g c (inputs_for inputs (inputs_seen i held g c s)))
      (step (instance_at i (c ∷ [])) (held_as (inputs_for inputs (inputs_seen i held g c s))) child k (under c s))

  -- of the arm in which leaf k is
  pub step_arms : Instance → Held → Opens → ℕ → State → Stepped Opens
  step_arms i held no_arms k s = Now no_arms s
  step_arms i held (an_arm statement arm arms) k s =
      first_or (nat_lt k (leaves_of arm))
      (within (arms_left statement arms) (step i held arm k s))
      (within (an_arm statement arm) (step_arms i held arms (k - leaves_of arm) s))
