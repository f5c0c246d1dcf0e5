-- LAWS OF RUNS with static components: a greater budget shows no more than that a run goes on, and every statement leaves a settled state.
use Rattle.std.proofs.Common.{◌≡◌, ℕ, zero, suc, ap, Bool, true, false, List, [], Option, Some, None, arith}
use Rattle.cx_meaning.specs.declared.kinds.GroupKind.{GroupKind}
use Rattle.cx_meaning.specs.declared.kinds.GroupKind.TheVariants as kinds
use Rattle.cx_meaning.specs.Rows.{KeepsIdle}
use Rattle.cx_meaning.specs.Designs.{PlainForm, Enable, Timed, PlainStatement, group_at}
use Rattle.cx_meaning.specs.Instances.{Instance, Node, Cells, no_cells, a_primitive, an_instance, OfInstance, cell_at, cells_of, part_of, State, under, idle, IsSettled}
use Rattle.cx_meaning.specs.Active.{capture}
use Rattle.cx_meaning.specs.Sights.{Held}
use Rattle.cx_meaning.specs.Cycles.{Fault}
use Rattle.cx_meaning.specs.Answers.{idle_turn}
use Rattle.cx_meaning.specs.Control.{run}
use Rattle.cx_meaning.specs.Islands.{turn_of}
use Rattle.cx_meaning.specs.Calls.{inputs_of_call, called, captures}
use Rattle.cx_meaning.specs.Running.{Children}
use Rattle.cx_meaning.specs.Budgets.{IsSteady, Leaves}
use Rattle.cx_meaning.specs.Laws.{AllRows}
use Rattle.cx_meaning.proofs.AnswersLemmas.{steady_idle, steady_turn, steady_turns, grows_turn, grows_then, turn_beyond, leaves_last, leaves_idle, leaves_turn, leaves_turns}
use Rattle.cx_meaning.proofs.ControlLemmas.{LeavesAreSteady, steady_run, leaves_run}
use Rattle.cx_meaning.proofs.InstancesLemmas.{instance_is, row_instance, nothing_instance}
use Rattle.cx_meaning.proofs.RunningLemmas.{idle_settles, grows_lifted, merge_settles}
use Rattle.cx_rules.specs.Invokes.{form_lasts}
use Rattle.cx_flattening.specs.Events.{Event}
use Rattle.cx_flattening.specs.Deeds.{History, no_history, and_now}
use Rattle.cx_flattening.specs.Lists.{island_events}
use Rattle.cx_flattening.specs.Whole.{look_below, whole_cycle, whole_turn, whole_from, whole_island, after_child, call, group_turn, call_or_turns, enable_kind, whole_leaves, whole_control, whole_below}

-- the run of a child
pub whole_child : (cells : Cells) (c : ℕ) (child : Instance) → cell_at cells c ≡ OfInstance child → (held : Held) (s : State) (n : ℕ) → whole_below cells c held s n ≡ whole_control child held s n
whole_child no_cells c child e held s n = absurd (nothing_instance child e)
whole_child (a_primitive row rest) zero child e held s n = absurd (row_instance row child e)
whole_child (a_primitive row rest) (suc c) child e held s n = whole_child rest c child e held s n
whole_child (an_instance x rest) zero child e held s n = ap (λ y. whole_control y held s n) (instance_is x child e)
whole_child (an_instance x rest) (suc c) child e held s n = whole_child rest c child e held s n

module _ (i : Instance) (held : Held) where
  steady_cycles : (list : List Event) (left t : ℕ) (h : History) → IsSteady (whole_from i held list left t h)
  steady_cycles list zero t h s n m le = steady_idle State Fault (idle i) s n m le
  steady_cycles list (suc left) t h s zero zero le = tt
  steady_cycles list (suc left) t h s zero (suc m) le = turn_beyond (idle i) s (whole_turn i held list t (and_now h t (look_below i held s)) s) _
  steady_cycles list (suc left) t h s (suc n) zero le = absurd (omega arith)
  steady_cycles list (suc left) t h s (suc n) (suc m) le =
      grows_turn (idle i) s _ n (λ after. whole_from i held list left (suc t) (and_now h t (look_below i held s)) after n) (λ after. whole_from i held list left (suc t) (and_now h t (look_below i held s)) after m)
      (λ after. steady_cycles list left (suc t) (and_now h t (look_below i held s)) after n m (omega arith))

  pub steady_island : (form : PlainForm) → IsSteady (whole_island i held form)
  steady_island form s n m le = steady_cycles (island_events i form) (form_lasts (part_of i) form) 0 no_history s n m le

module _ (i : Instance) (children : Children) (held : Held) (g : ℕ) where
  pub steady_after : (c : ℕ) (capturing : Bool) → IsSteady (after_child i held g c capturing)
  steady_after c true s n m le = steady_turn (idle i) (λ s1. turn_of (whole_cycle i held (capture g c) [] s1)) (idle_turn (idle i)) (steady_idle State Fault (idle i)) s n m le
  steady_after c false s n m le = steady_idle State Fault (idle i) s n m le

  module _ (steady : (c : ℕ) (h : Held) → IsSteady (children c h)) where
    steady_call : (c : ℕ) → IsSteady (call i children held g c)
    steady_call c s n m le =
        grows_then n m le _ _ (after_child i held g c (captures i g)) (after_child i held g c (captures i g))
        (λ s1 a b ab an bm. steady_after c (captures i g) s1 a b ab)
        (grows_lifted c s n _ _ (steady c (inputs_of_call i held g c s) (under c s) n m le))

    steady_called : (o : Option ℕ) → IsSteady (call_or_turns i children held g o)
    steady_called (Some c) s n m le = steady_call c s n m le
    steady_called None s n m le = steady_turns (idle i) (group_turn i held g) s n m le

    steady_enable : (kind : GroupKind) → IsSteady (enable_kind i children held g kind)
    steady_enable kinds.Plain s n m le = steady_called (called i g) s n m le
    steady_enable kinds.Comb s n m le = steady_called (called i g) s n m le
    steady_enable (kinds.Timed length) s n m le = steady_island i held (Enable g) s n m le

leaves_are_steady : (i : Instance) (children : Children) (held : Held) → ((c : ℕ) (h : Held) → IsSteady (children c h)) → LeavesAreSteady (whole_leaves i children held)
leaves_are_steady i children held steady = record {
  enable = λ g. steady_enable i children held g steady (group_at (part_of i) g).kind;
  island = λ form. steady_island i held form;
  timed = λ k s n m le. steady_island i held (Timed k) s n m le;
}

mutual
  pub steady_whole : (i : Instance) (held : Held) → IsSteady (whole_control i held)
  steady_whole (Node part cells) held s n m le =
      steady_run (whole_leaves (Node part cells) (whole_below cells) held) (leaves_are_steady (Node part cells) (whole_below cells) held (steady_below cells)) part.control s n m le

  steady_below : (cells : Cells) (c : ℕ) (held : Held) → IsSteady (whole_below cells c held)
  steady_below no_cells c held s n m le = tt
  steady_below (a_primitive row rest) zero held s n m le = tt
  steady_below (a_primitive row rest) (suc c) held s n m le = steady_below rest c held s n m le
  steady_below (an_instance child rest) zero held s n m le = steady_whole child held s n m le
  steady_below (an_instance child rest) (suc c) held s n m le = steady_below rest c held s n m le

pub steady_statement : (i : Instance) (held : Held) (statement : PlainStatement) → IsSteady (run (whole_leaves i (whole_below (cells_of i)) held) statement)
steady_statement (Node part cells) held statement s n m le =
    steady_run (whole_leaves (Node part cells) (whole_below cells) held) (leaves_are_steady (Node part cells) (whole_below cells) held (steady_below cells)) statement s n m le

-- EVERY STATEMENT keeps what each idle turn, each merge and each cycle of its leaves keeps
module _ (i : Instance) (held : Held) (children : Children) (P : State → Type 0) (rest_keeps : (s : State) → P (idle i s)) where
  pub keeps_cycles : (list : List Event) (left t : ℕ) (h : History) (s : State) (n : ℕ) → Leaves P (whole_from i held list left t h s n)
  keeps_cycles list zero t h s n = leaves_idle State Fault P (idle i) rest_keeps s n
  keeps_cycles list (suc left) t h s zero = tt
  keeps_cycles list (suc left) t h s (suc n) =
      leaves_turn P (idle i) rest_keeps s (whole_turn i held list t (and_now h t (look_below i held s)) s) _ (λ after. keeps_cycles list left (suc t) (and_now h t (look_below i held s)) after n)

  keeps_after : (g c : ℕ) (capturing : Bool) (s : State) (n : ℕ) → Leaves P (after_child i held g c capturing s n)
  keeps_after g c true s zero = tt
  keeps_after g c true s (suc n) = leaves_turn P (idle i) rest_keeps s _ _ (λ after. leaves_idle State Fault P (idle i) rest_keeps after n)
  keeps_after g c false s n = leaves_idle State Fault P (idle i) rest_keeps s n

  keeps_called : (g : ℕ) (o : Option ℕ) (s : State) (n : ℕ) → Leaves P (call_or_turns i children held g o s n)
  keeps_called g (Some c) s n = leaves_last P _ n (after_child i held g c (captures i g)) (λ s1 k. keeps_after g c (captures i g) s1 k)
  keeps_called g None s n = leaves_turns P (idle i) rest_keeps (group_turn i held g) s n

  keeps_enable : (g : ℕ) (kind : GroupKind) (s : State) (n : ℕ) → Leaves P (enable_kind i children held g kind s n)
  keeps_enable g kinds.Plain s n = keeps_called g (called i g) s n
  keeps_enable g kinds.Comb s n = keeps_called g (called i g) s n
  keeps_enable g (kinds.Timed length) s n = keeps_cycles (island_events i (Enable g)) (form_lasts (part_of i) (Enable g)) 0 no_history s n

pub whole_settles : (i : Instance) → AllRows KeepsIdle i → (held : Held) (statement : PlainStatement) (s : State) (n : ℕ) → IsSettled i s → Leaves (IsSettled i) (run (whole_leaves i (whole_below (cells_of i)) held) statement s n)
whole_settles (Node part cells) keep held statement s n settled =
    leaves_run (whole_leaves (Node part cells) (whole_below cells) held) (IsSettled (Node part cells))
    (record {
      rests = idle_settles (Node part cells) keep;
      merges = λ arm a b h k. merge_settles (Node part cells) _ a b h k;
      enable = λ g s1 k h. keeps_enable (Node part cells) held (whole_below cells) (IsSettled (Node part cells)) (idle_settles (Node part cells) keep) g (group_at part g).kind s1 k;
      island = λ form s1 k h. keeps_cycles (Node part cells) held (whole_below cells) (IsSettled (Node part cells)) (idle_settles (Node part cells) keep) (island_events (Node part cells) form) (form_lasts part form) 0 no_history s1 k;
      timed = λ q s1 k h. keeps_cycles (Node part cells) held (whole_below cells) (IsSettled (Node part cells)) (idle_settles (Node part cells) keep) (island_events (Node part cells) (Timed q)) (form_lasts part (Timed q)) 0 no_history s1 k;
    })
    statement s n settled
