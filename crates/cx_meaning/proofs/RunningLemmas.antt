-- Laws of runs: budgets, turns, and settled states.
use Rattle.std.proofs.Common.{◌≡◌, ℕ, zero, suc, Bool, true, false, List, [], ◌∷◌, Option, Some, None, if◌then◌else◌, refl, ap, arith}
use Rattle.cx_prim.specs.CellStates.{CellState}
use Rattle.cx_meaning.specs.declared.kinds.GroupKind.{GroupKind}
use Rattle.cx_meaning.specs.declared.kinds.GroupKind.TheVariants as kinds
use Rattle.cx_meaning.specs.Rows.{KeepsIdle}
use Rattle.cx_meaning.specs.Designs.{PlainForm, Enable, PlainStatement, group_at}
use Rattle.cx_meaning.specs.Instances.{Instance, Node, Cells, no_cells, a_primitive, an_instance, part_of, State, Path, Set, merge, under, idle_at, idle_below, idle, IsSettled, start_at, start_below, OfInstance, cell_at}
use Rattle.cx_meaning.specs.Active.{nothing, capture}
use Rattle.cx_meaning.specs.Sights.{Held, seen}
use Rattle.cx_meaning.specs.Cycles.{Fault, cycle}
use Rattle.cx_meaning.specs.Answers.{Answer, End, More, Meaning, idle_turn, one_turn, turns_of, then_do}
use Rattle.cx_meaning.specs.Answers as answers
use Rattle.cx_meaning.specs.Islands.{Occurrence, form_flat, form_length, no_history, History, and_now, island_turn, island_from, island, turn_of}
use Rattle.cx_meaning.specs.Calls.{group_turn, lift_answer, inputs_of_call, after_child, call, call_or_turns, called, captures, enable_kind}
use Rattle.cx_meaning.specs.Running.{Children, leaves, run_control, control_below, run_statement}
use Rattle.cx_meaning.specs.Budgets.{Beyond, Grows, IsSteady, TakesTurns, Leaves}
use Rattle.cx_meaning.specs.Laws.{AllRows, AllRowsBelow}
use Rattle.cx_meaning.proofs.AnswersLemmas.{steady_idle, steady_turn, steady_turns, grows_turn, grows_then, turn_beyond, takes_last, takes_idle, takes_turn, takes_turns_of, leaves_last, leaves_idle, leaves_turn, leaves_turns}
use Rattle.cx_meaning.proofs.ControlLemmas.{LeavesAreSteady, steady_run, takes_run, leaves_run}
use Rattle.cx_meaning.proofs.InstancesLemmas.{instance_is, nothing_instance, row_instance}

-- islands
module _ (i : Instance) (held : Held) where
  steady_cycles : (list : List Occurrence) (left t : ℕ) (h : History) → IsSteady (island_from i held list left t h)
  steady_cycles list zero t h s n m le = steady_idle State Fault (idle i) s n m le
  steady_cycles list (suc left) t h s zero zero le = tt
  steady_cycles list (suc left) t h s zero (suc m) le = turn_beyond (idle i) s (island_turn i held list t (and_now h t (seen i held nothing s)) s) _
  steady_cycles list (suc left) t h s (suc n) zero le = absurd (omega arith)
  steady_cycles list (suc left) t h s (suc n) (suc m) le =
      grows_turn (idle i) s _ n (λ after. island_from i held list left (suc t) (and_now h t (seen i held nothing s)) after n) (λ after. island_from i held list left (suc t) (and_now h t (seen i held nothing s)) after m)
      (λ after. steady_cycles list left (suc t) (and_now h t (seen i held nothing s)) after n m (omega arith))

  pub steady_island : (form : PlainForm) → IsSteady (island i held form)
  steady_island form s n m le = steady_cycles (form_flat (part_of i) form 0 []) (form_length (part_of i) form) 0 no_history s n m le

-- calls
pub grows_lifted : (c : ℕ) (s : State) (n : ℕ) (o later : Answer State Fault) → Grows n o later → Grows n (lift_answer c s o) (lift_answer c s later)
grows_lifted c s n (End own t) later (h, e) = (h, ap (lift_answer c s) e)
grows_lifted c s n (answers.Fault f t) later (h, e) = (h, ap (lift_answer c s) e)
grows_lifted c s n More later h = beyond later h
  where
    beyond : (o : Answer State Fault) → Beyond n o → Beyond n (lift_answer c s o)
    beyond (End own t) h = h
    beyond (answers.Fault f t) h = h
    beyond More h = tt

module _ (i : Instance) (children : Children) (held : Held) (g : ℕ) where
  steady_after : (c : ℕ) (capturing : Bool) → IsSteady (after_child i held g c capturing)
  steady_after c true s n m le = steady_turn (idle i) (λ s1. turn_of (cycle i held (capture g c) s1)) (idle_turn (idle i)) (steady_idle State Fault (idle i)) s n m le
  steady_after c false s n m le = steady_idle State Fault (idle i) s n m le

  module _ (steady : (c : ℕ) (h : Held) → IsSteady (children c h)) where
    steady_call : (c : ℕ) → IsSteady (call i children held g c)
    steady_call c s n m le =
        grows_then n m le _ _ (after_child i held g c (captures i g)) (after_child i held g c (captures i g))
        (λ s1 a b ab an bm. steady_after c (captures i g) s1 a b ab)
        (grows_lifted c s n _ _ (steady c (inputs_of_call i held g c s) (under c s) n m le))

    steady_called : (o : Option ℕ) → IsSteady (call_or_turns i children held g o)
    steady_called (Some c) s n m le = steady_call c s n m le
    steady_called None s n m le = steady_turns (idle i) (group_turn i held g) s n m le

    steady_enable : (kind : GroupKind) → IsSteady (enable_kind i children held g kind)
    steady_enable kinds.Plain s n m le = steady_called (called i g) s n m le
    steady_enable kinds.Comb s n m le = steady_called (called i g) s n m le
    steady_enable (kinds.Timed length) s n m le = steady_island i held (Enable g) s n m le

leaves_are_steady : (i : Instance) (children : Children) (held : Held) → ((c : ℕ) (h : Held) → IsSteady (children c h)) → LeavesAreSteady (leaves i children held)
leaves_are_steady i children held steady = record {
  enable = λ g. steady_enable i children held g steady (group_at (part_of i) g).kind;
  island = λ form. steady_island i held form;
  timed = λ k s n m le. tt;
}

mutual
  pub steady_control : (i : Instance) (held : Held) → IsSteady (run_control i held)
  steady_control (Node part cells) held s n m le =
      steady_run (leaves (Node part cells) (control_below cells) held) (leaves_are_steady (Node part cells) (control_below cells) held (steady_below cells)) part.control s n m le

  steady_below : (cells : Cells) (c : ℕ) (held : Held) → IsSteady (control_below cells c held)
  steady_below no_cells c held s n m le = tt
  steady_below (a_primitive row rest) zero held s n m le = tt
  steady_below (a_primitive row rest) (suc c) held s n m le = steady_below rest c held s n m le
  steady_below (an_instance child rest) zero held s n m le = steady_control child held s n m le
  steady_below (an_instance child rest) (suc c) held s n m le = steady_below rest c held s n m le

-- a run of a statement with a greater budget shows no more than that it goes on
pub steady_statement : (i : Instance) (held : Held) (statement : PlainStatement) → IsSteady (run_statement i held statement)
steady_statement (Node part cells) held statement s n m le =
    steady_run (leaves (Node part cells) (control_below cells) held) (leaves_are_steady (Node part cells) (control_below cells) held (steady_below cells)) statement s n m le

-- at least one turn
module _ (i : Instance) (held : Held) where
  takes_cycles : (list : List Occurrence) (left t : ℕ) (h : History) (s : State) (n : ℕ) → TakesTurns (island_from i held list left t h s n)
  takes_cycles list zero t h s n = takes_idle State Fault (idle i) s n
  takes_cycles list (suc left) t h s zero = tt
  takes_cycles list (suc left) t h s (suc n) = takes_turn (idle i) s (island_turn i held list t (and_now h t (seen i held nothing s)) s) _

  takes_after : (g c : ℕ) (capturing : Bool) (s : State) (n : ℕ) → TakesTurns (after_child i held g c capturing s n)
  takes_after g c true s zero = tt
  takes_after g c true s (suc n) = takes_turn (idle i) s (turn_of (cycle i held (capture g c) s)) (λ after. idle_turn (idle i) after n)
  takes_after g c false s n = takes_idle State Fault (idle i) s n

  module _ (children : Children) (g : ℕ) where
    takes_called : (o : Option ℕ) (s : State) (n : ℕ) → TakesTurns (call_or_turns i children held g o s n)
    takes_called (Some c) s n = takes_last _ n (after_child i held g c (captures i g)) (λ s1 k. takes_after g c (captures i g) s1 k)
    takes_called None s n = takes_turns_of (idle i) (group_turn i held g) s n

    takes_enable : (kind : GroupKind) (s : State) (n : ℕ) → TakesTurns (enable_kind i children held g kind s n)
    takes_enable kinds.Plain s n = takes_called (called i g) s n
    takes_enable kinds.Comb s n = takes_called (called i g) s n
    takes_enable (kinds.Timed length) s n = takes_cycles (form_flat (part_of i) (Enable g) 0 []) (form_length (part_of i) (Enable g)) 0 no_history s n

pub takes_statement : (i : Instance) (held : Held) (statement : PlainStatement) (s : State) (n : ℕ) → TakesTurns (run_statement i held statement s n)
takes_statement (Node part cells) held statement s n =
    takes_run (leaves (Node part cells) (control_below cells) held)
    (record {
      enable = λ g s1 k. takes_enable (Node part cells) held (control_below cells) g (group_at part g).kind s1 k;
      island = λ form s1 k. takes_cycles (Node part cells) held (form_flat part form 0 []) (form_length part form) 0 no_history s1 k;
      timed = λ k s1 j. tt;
    })
    statement s n

-- idle turns
mutual
  pub idle_twice : (i : Instance) → AllRows KeepsIdle i → (path : Path) (state : CellState) → idle_at i path (idle_at i path state) ≡ idle_at i path state
  idle_twice (Node part cells) keep [] state = refl
  idle_twice (Node part cells) keep (c ∷ path) state = idle_twice_below cells keep c path state

  idle_twice_below : (cells : Cells) → AllRowsBelow KeepsIdle cells → (c : ℕ) (path : Path) (state : CellState) → idle_below cells c path (idle_below cells c path state) ≡ idle_below cells c path state
  idle_twice_below no_cells keep c path state = refl
  idle_twice_below (a_primitive row rest) (keep, others) zero [] state = keep.once state
  idle_twice_below (a_primitive row rest) (keep, others) zero (e ∷ path) state = refl
  idle_twice_below (a_primitive row rest) (keep, others) (suc c) path state = idle_twice_below rest others c path state
  idle_twice_below (an_instance child rest) (keep, others) zero path state = idle_twice child keep path state
  idle_twice_below (an_instance child rest) (keep, others) (suc c) path state = idle_twice_below rest others c path state

pub idle_settles : (i : Instance) → AllRows KeepsIdle i → (s : State) → IsSettled i (idle i s)
idle_settles i keep s path = idle_twice i keep path (s path)

pub merge_settles : (i : Instance) (set : Set) (a b : State) → IsSettled i a → IsSettled i b → IsSettled i (merge set a b)
merge_settles i set a b h k [] = k []
merge_settles i set a b h k (c ∷ path) = one (set c)
  where
    one : (pick : Bool) → idle_at i (c ∷ path) (if pick then a (c ∷ path) else b (c ∷ path)) ≡ (if pick then a (c ∷ path) else b (c ∷ path))
    one true = h (c ∷ path)
    one false = k (c ∷ path)

mutual
  pub start_idle : (i : Instance) → AllRows KeepsIdle i → (path : Path) → idle_at i path (start_at i path) ≡ start_at i path
  start_idle (Node part cells) keep [] = refl
  start_idle (Node part cells) keep (c ∷ path) = start_idle_below cells keep c path

  start_idle_below : (cells : Cells) → AllRowsBelow KeepsIdle cells → (c : ℕ) (path : Path) → idle_below cells c path (start_below cells c path) ≡ start_below cells c path
  start_idle_below no_cells keep c path = refl
  start_idle_below (a_primitive row rest) (keep, others) zero [] = keep.starts_settled
  start_idle_below (a_primitive row rest) (keep, others) zero (e ∷ path) = refl
  start_idle_below (a_primitive row rest) (keep, others) (suc c) path = start_idle_below rest others c path
  start_idle_below (an_instance child rest) (keep, others) zero path = start_idle child keep path
  start_idle_below (an_instance child rest) (keep, others) (suc c) path = start_idle_below rest others c path

-- every statement leaves a settled state
module _ (i : Instance) (keep : AllRows KeepsIdle i) (held : Held) where
  settles_cycles : (list : List Occurrence) (left t : ℕ) (h : History) (s : State) (n : ℕ) → Leaves (IsSettled i) (island_from i held list left t h s n)
  settles_cycles list zero t h s n = leaves_idle State Fault (IsSettled i) (idle i) (idle_settles i keep) s n
  settles_cycles list (suc left) t h s zero = tt
  settles_cycles list (suc left) t h s (suc n) =
      leaves_turn (IsSettled i) (idle i) (idle_settles i keep) s (island_turn i held list t (and_now h t (seen i held nothing s)) s) _
      (λ after. settles_cycles list left (suc t) (and_now h t (seen i held nothing s)) after n)

  settles_after : (g c : ℕ) (capturing : Bool) (s : State) (n : ℕ) → Leaves (IsSettled i) (after_child i held g c capturing s n)
  settles_after g c true s zero = tt
  settles_after g c true s (suc n) = leaves_turn (IsSettled i) (idle i) (idle_settles i keep) s _ _ (λ after. leaves_idle State Fault (IsSettled i) (idle i) (idle_settles i keep) after n)
  settles_after g c false s n = leaves_idle State Fault (IsSettled i) (idle i) (idle_settles i keep) s n

  module _ (children : Children) (g : ℕ) where
    settles_called : (o : Option ℕ) (s : State) (n : ℕ) → Leaves (IsSettled i) (call_or_turns i children held g o s n)
    settles_called (Some c) s n = leaves_last (IsSettled i) _ n (after_child i held g c (captures i g)) (λ s1 k. settles_after g c (captures i g) s1 k)
    settles_called None s n = leaves_turns (IsSettled i) (idle i) (idle_settles i keep) (group_turn i held g) s n

    settles_enable : (kind : GroupKind) (s : State) (n : ℕ) → Leaves (IsSettled i) (enable_kind i children held g kind s n)
    settles_enable kinds.Plain s n = settles_called (called i g) s n
    settles_enable kinds.Comb s n = settles_called (called i g) s n
    settles_enable (kinds.Timed length) s n = settles_cycles (form_flat (part_of i) (Enable g) 0 []) (form_length (part_of i) (Enable g)) 0 no_history s n

pub settles_statement : (i : Instance) → AllRows KeepsIdle i → (held : Held) (statement : PlainStatement) (s : State) (n : ℕ) → IsSettled i s → Leaves (IsSettled i) (run_statement i held statement s n)
settles_statement (Node part cells) keep held statement s n settled =
    leaves_run (leaves (Node part cells) (control_below cells) held) (IsSettled (Node part cells))
    (record {
      rests = idle_settles (Node part cells) keep;
      merges = λ arm a b h k. merge_settles (Node part cells) _ a b h k;
      enable = λ g s1 k h. settles_enable (Node part cells) keep held (control_below cells) g (group_at part g).kind s1 k;
      island = λ form s1 k h. settles_cycles (Node part cells) keep held (form_flat part form 0 []) (form_length part form) 0 no_history s1 k;
      timed = λ k s1 j h. tt;
    })
    statement s n settled

pub child_runs : (cells : Cells) (c : ℕ) (child : Instance) → cell_at cells c ≡ OfInstance child → (held : Held) (s : State) (n : ℕ) → control_below cells c held s n ≡ run_control child held s n
child_runs no_cells c child e held s n = absurd (nothing_instance child e)
child_runs (a_primitive row rest) zero child e held s n = absurd (row_instance row child e)
child_runs (a_primitive row rest) (suc c) child e held s n = child_runs rest c child e held s n
child_runs (an_instance other rest) zero child e held s n = ap (λ i. run_control i held s n) (instance_is other child e)
child_runs (an_instance other rest) (suc c) child e held s n = child_runs rest c child e held s n

-- the control of a child
pub control_child : (cells : Cells) (c : ℕ) (child : Instance) (held : Held) (s : State) (n : ℕ) → cell_at cells c ≡ OfInstance child → control_below cells c held s n ≡ run_control child held s n
control_child no_cells c child held s n e = absurd (cc)
control_child (a_primitive row rest) zero child held s n e = absurd (cc)
control_child (a_primitive row rest) (suc c) child held s n e = control_child rest c child held s n e
control_child (an_instance own rest) zero child held s n e = let same : own ≡ child = cc in ap (λ x. run_control x held s n) same
control_child (an_instance own rest) (suc c) child held s n e = control_child rest c child held s n e
