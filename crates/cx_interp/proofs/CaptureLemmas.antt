-- The capture cycle of a call, and what is behind the child's control.
use Rattle.std.proofs.Common.{◌≡◌, ℕ, zero, suc, ◌≤◌, ◌<◌, true, false, List, Some, Result, Ok, Err, refl, sym, ap, ◌∙◌, subst, arith}
use Rattle.cx_meaning.specs.Designs.{PlainDesign}
use Rattle.cx_meaning.specs.Instances.{Instance, Path, State, Set, part_of, idle, instance_at, tree_of, IsSettled}
use Rattle.cx_meaning.specs.Active.{Active, capture}
use Rattle.cx_meaning.specs.Sights.{Held}
use Rattle.cx_meaning.specs.Cycles.{Ended, Goes, Faults, cycle_of, cycle, every_cell}
use Rattle.cx_meaning.specs.Cycles as cycles
use Rattle.cx_meaning.specs.Answers.{turn_then, idle_turn}
use Rattle.cx_meaning.specs.Islands.{turn_of}
use Rattle.cx_meaning.specs.Calls.{after_child}
use Rattle.cx_meaning.specs.Control.{group_drives}
use Rattle.cx_design.specs.declared.actives.Active.TheVariants as actives
use Rattle.cx_design.specs.declared.actives.PortFault.{PortFault}
use Rattle.cx_design.specs.PlainActives.{capture_of, TellsFault}
use Rattle.cx_state.specs.Tables.{IsNumber}
use Rattle.cx_state.specs.States.{PlainInstance, inputs_held, IsStateOf, StandsFor, under_path, put_path}
use Rattle.cx_eval.specs.Evaluated.{Cycled, EndsAs, fault_along}
use Rattle.cx_eval_cycle.specs.Passes.{listed_in}
use Rattle.cx_frames.specs.Rests.{IsUndriven, IsSettledAt}
use Rattle.cx_frames.specs.Ran.{Outcome, Faulted, Unfinished}
use Rattle.cx_frames.specs.Ran as ran
use Rattle.cx_turns.specs.declared.tables.GroupRow.{GroupRow}
use Rattle.cx_turns.specs.Groups.{IsGroupRow, group_driving}
use Rattle.cx_turns.specs.Turns.{IsBusy}
use Rattle.cx_turns.proofs.PathLemmas.{put_same, settled_under}
use Rattle.cx_turns.proofs.TurnLemmas.{still_busy, rest_settled}
use Rattle.cx_interp.specs.declared.answers.Answer as told
use Rattle.cx_interp.specs.declared.answers.Answer.TheVariants as result
use Rattle.cx_interp.specs.Callees.{after_does, capture_does, two_turns}
use Rattle.cx_interp.specs.Doings.{idle_does}
use Rattle.cx_interp.specs.Done.{Done, Tells, IsWithin}
use Rattle.cx_interp.specs.Pauses.{AnswersIdle, Pauses, Paused}
use Rattle.cx_interp.proofs.EnableLemmas.{done_same_at}
use Rattle.cx_frames.proofs.RunLemmas.{group_undriven}

pub two_more : (budget : ℕ) → budget ≤ 1 → two_turns budget ≡ result.More
two_more zero le = refl
two_more (suc zero) le = refl
two_more (suc (suc b)) le = absurd (omega arith)

two_within : (budget : ℕ) → IsWithin budget (two_turns budget)
two_within zero = tt
two_within (suc zero) = tt
two_within (suc (suc b)) = omega arith

abbrev two_outcome : ℕ → Outcome
two_outcome zero = Unfinished
two_outcome (suc zero) = Unfinished
two_outcome (suc (suc b)) = ran.Ended 2

two_told : (d : PlainDesign) (path : Path) (budget : ℕ) → Tells d path (two_turns budget) (two_outcome budget)
two_told d path zero = refl
two_told d path (suc zero) = refl
two_told d path (suc (suc b)) = refl

two_means : (i : Instance) (held : Held) (g c : ℕ) (s after : State) (budget : ℕ) → 0 < budget → cycle i held (capture g c) s ≡ Goes after → AnswersIdle i after (after_child i held g c true s budget) (two_outcome budget)
two_means i held g c s after zero some e = absurd (omega arith)
two_means i held g c s after (suc zero) some e = subst (λ x. AnswersIdle i after (turn_then (idle i) s (turn_of x) (λ a. idle_turn (idle i) a 0)) Unfinished) (sym e) refl
two_means i held g c s after (suc (suc b)) some e = subst (λ x. AnswersIdle i after (turn_then (idle i) s (turn_of x) (λ a. idle_turn (idle i) a (suc b))) (ran.Ended 2)) (sym e) (refl, refl)

fault_means : (i : Instance) (held : Held) (g c : ℕ) (s : State) (fault : cycles.Fault) (budget : ℕ) → 0 < budget → cycle i held (capture g c) s ≡ Faults fault → AnswersIdle i s (after_child i held g c true s budget) (Faulted fault 0)
fault_means i held g c s fault zero some e = absurd (omega arith)
fault_means i held g c s fault (suc b) some e = subst (λ x. AnswersIdle i s (turn_then (idle i) s (turn_of x) (λ a. idle_turn (idle i) a b)) (Faulted fault 0)) (sym e) refl

busy_start : (driven : Set) (s : State) → IsBusy driven s s
busy_start driven s = record { top = refl; others = λ c below e. refl; deeper = λ c e below. refl }

module _ (d : PlainDesign) (n g c : ℕ) (row : GroupRow) (is : IsGroupRow d n g row) (callee : row.callee ≡ Some c) where
  -- no turn
  pub capture_none : (rows : List PlainInstance) (budget : ℕ) → budget ≡ 0 → IsStateOf d rows → Paused d rows rows n (group_driving g) (capture_does g c) budget result.More
  capture_none rows budget none fits = record {
    pauses = λ path s number stands settled. record {
      now = under_path path s;
      outcome = Unfinished;
      stands = subst (λ (x : State). StandsFor (tree_of d) rows x) (sym (put_same path s)) stands;
      busy = busy_start (group_driving g (instance_at (tree_of d) path)) (under_path path s);
      told = refl;
      held = λ m input. refl;
      means = subst (λ b. AnswersIdle (instance_at (tree_of d) path) (under_path path s) (capture_does g c (instance_at (tree_of d) path) (inputs_held rows n) (under_path path s) b) Unfinished) (sym none) refl;
    };
    within = tt;
    fits = fits;
  }

  module _ (old new : List PlainInstance) (budget : ℕ) (some : 0 < budget) (fits : IsStateOf d new)
      (suffices : (path : Path) (held : Held) (act : Active) (listed : Set) (s : State) → ((k : ℕ) → listed k ≡ false → IsUndriven (part_of (instance_at (tree_of d) path)) act k)
      → ((k : ℕ) → listed k ≡ false → IsSettledAt (instance_at (tree_of d) path) s k) → cycle_of (instance_at (tree_of d) path) held act listed s ≡ cycle_of (instance_at (tree_of d) path) held act every_cell s) where
    abbrev listed : Set
    listed = listed_in row.cells.items

    off : (path : Path) → IsNumber d n path → (k : ℕ) → listed k ≡ false → group_drives (part_of (instance_at (tree_of d) path)) g k ≡ false
    off path number k e = sym ((is path number).cells k) ∙ e

    whole : (path : Path) (s : State) (held : Held) → IsNumber d n path → IsSettled (tree_of d) s
        → cycle_of (instance_at (tree_of d) path) held (capture g c) listed (under_path path s) ≡ cycle (instance_at (tree_of d) path) held (capture g c) (under_path path s)
    whole path s held number settled =
        suffices path held (capture g c) listed (under_path path s) (λ k e. group_undriven (part_of (instance_at (tree_of d) path)) g k (off path number k e))
        (λ k e. rest_settled (instance_at (tree_of d) path) (group_driving g (instance_at (tree_of d) path)) (under_path path s) (under_path path s) (settled_under (tree_of d) path s settled)
        (busy_start (group_driving g (instance_at (tree_of d) path)) (under_path path s)) k (off path number k e))

    -- what the cycle that was made tells
    made : (path : Path) (s : State) (r : Result (Unit {0}) PortFault) → Cycled d old new n (actives.CallEnd g) listed r → IsNumber d n path → StandsFor (tree_of d) old s
        → EndsAs d path s old new r (cycle_of (instance_at (tree_of d) path) (inputs_held old n) (capture g c) listed (under_path path s))
    made path s r cycled number stands =
        subst (λ o. EndsAs d path s old new r (cycle_of (instance_at (tree_of d) path) (inputs_held old n) (capture_of g o) listed (under_path path s))) (sym (is path number).callee ∙ callee)
        (cycled path s number stands)

    went_on : (path : Path) (s : State) → IsNumber d n path → IsSettled (tree_of d) s → (x : Ended) → cycle_of (instance_at (tree_of d) path) (inputs_held old n) (capture g c) listed (under_path path s) ≡ x → EndsAs d path s old new (Ok tt) x
        → Pauses d old new n (group_driving g) (capture_does g c) budget (two_turns budget) path s
    went_on path s number settled (Goes after) e (ends, stands, alike) = record {
      now = after;
      outcome = two_outcome budget;
      stands = stands;
      busy = still_busy (instance_at (tree_of d) path) (inputs_held old n) (capture g c) listed (group_driving g (instance_at (tree_of d) path)) (under_path path s) (under_path path s) after
          (λ k f. (is path number).cells k ∙ f) (busy_start (group_driving g (instance_at (tree_of d) path)) (under_path path s)) e;
      told = two_told d path budget;
      held = alike;
      means = two_means (instance_at (tree_of d) path) (inputs_held old n) g c (under_path path s) after budget some (sym (whole path s (inputs_held old n) number settled) ∙ e);
    }
    went_on path s number settled (Faults f) e (fault, is_err, tells, same) = absurd (cc)

    stopped : (fault : PortFault) (path : Path) (s : State) → IsNumber d n path → IsSettled (tree_of d) s → StandsFor (tree_of d) old s → (x : Ended) → cycle_of (instance_at (tree_of d) path) (inputs_held old n) (capture g c) listed (under_path path s) ≡ x
        → EndsAs d path s old new (Err fault) x → Pauses d old new n (group_driving g) (capture_does g c) budget (result.Fault fault 0) path s
    stopped fault path s number settled stood (Goes after) e (ends, stands, alike) = absurd (ends fault refl)
    stopped fault path s number settled stood (Faults f) e (told_fault, is_err, tells, same) = record {
      now = under_path path s;
      outcome = Faulted f 0;
      stands = subst (λ rows. StandsFor (tree_of d) rows (put_path path (under_path path s) s)) (sym same) (subst (λ (x : State). StandsFor (tree_of d) old x) (sym (put_same path s)) stood);
      busy = busy_start (group_driving g (instance_at (tree_of d) path)) (under_path path s);
      told = (f, subst (TellsFault (tree_of d) (fault_along path f)) (let h : told_fault ≡ fault = cc in h) tells, refl);
      held = λ m input. ap (λ rows. inputs_held rows m input) same;
      means = fault_means (instance_at (tree_of d) path) (inputs_held old n) g c (under_path path s) f budget some (sym (whole path s (inputs_held old n) number settled) ∙ e);
    }

    pub capture_goes : Cycled d old new n (actives.CallEnd g) listed (Ok tt) → Paused d old new n (group_driving g) (capture_does g c) budget (two_turns budget)
    capture_goes cycled = record {
      pauses = λ path s number stands settled.
          went_on path s number settled (cycle_of (instance_at (tree_of d) path) (inputs_held old n) (capture g c) listed (under_path path s)) refl (made path s (Ok tt) cycled number stands);
      within = two_within budget;
      fits = fits;
    }

    pub capture_stops : (fault : PortFault) → Cycled d old new n (actives.CallEnd g) listed (Err fault) → Paused d old new n (group_driving g) (capture_does g c) budget (result.Fault fault 0)
    capture_stops fault cycled = record {
      pauses = λ path s number stands settled.
          stopped fault path s number settled stands (cycle_of (instance_at (tree_of d) path) (inputs_held old n) (capture g c) listed (under_path path s)) refl (made path s (Err fault) cycled number stands);
      within = some;
      fits = fits;
    }

  -- with the capture cycle, or without
  pub after_captures : (old new : List PlainInstance) (budget : ℕ) (a : told.Answer) → row.captures ≡ true → Done d old new n (group_driving g) (capture_does g c) budget a → Done d old new n (group_driving g) (after_does g c) budget a
  after_captures old new budget a e done =
      done_same_at d n (group_driving g) old new (capture_does g c) (after_does g c) budget a
      (λ path held s number. ap (λ b. after_child (instance_at (tree_of d) path) held g c b s budget) (sym e ∙ (is path number).captures)) done

  pub after_idle : (old new : List PlainInstance) (budget : ℕ) (a : told.Answer) → row.captures ≡ false → Done d old new n (group_driving g) idle_does budget a → Done d old new n (group_driving g) (after_does g c) budget a
  after_idle old new budget a e done =
      done_same_at d n (group_driving g) old new idle_does (after_does g c) budget a
      (λ path held s number. ap (λ b. after_child (instance_at (tree_of d) path) held g c b s budget) (sym e ∙ (is path number).captures)) done
