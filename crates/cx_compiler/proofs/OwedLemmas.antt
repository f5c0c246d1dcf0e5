-- What a source that realises a design owes beside: done in no other cycle, not before a fault, and the same from any power-up state.
use Rattle.std.proofs.Common.{◌≡◌, ℕ, ◌+◌, ◌≤◌, ◌<◌, List, refl, sym, ap, ◌∙◌, subst, arith}
use Rattle.cx_text.specs.Loading.{PlainMemory, FitsRows, words_loaded}
use Rattle.cx_meaning.specs.Answers as answers
use Rattle.cx_meaning.specs.Answers.{Answer}
use Rattle.cx_meaning.specs.Budgets.{Grows}
use Rattle.cx_meaning.specs.Cycles.{Fault}
use Rattle.cx_meaning.specs.Designs.{PlainDesign}
use Rattle.cx_meaning.specs.Instances as instances
use Rattle.cx_meaning.specs.Instances.{tree_of, words_of}
use Rattle.cx_meaning.specs.Running.{run_main}
use Rattle.cx_rules.specs.Externals.{external_rows}
use Rattle.cx_vtree.specs.Plain.{PlainSource}
use Rattle.cx_vtree.specs.Meaning.{State}
use Rattle.cx_vtree.specs.SimRun.{Outcome, DoneAt, NotDone, SimRun}
use Rattle.cx_vtree.proofs.Runs.{one_outcome}
use Rattle.cx_emitted.specs.Resets.{IsReset}
use Rattle.cx_emitted.specs.Power.{HasPower, PowerRun}
use Rattle.cx_emitted.proofs.ResetLemmas.{forgets}
use Rattle.cx_net.specs.Realises.{HasOutcome, comes, waits, Realises}
use Rattle.cx_net.proofs.FollowLemmas.{never_loops}
use Rattle.cx_compiler.proofs.BelowLemmas.{cycle_within, main_grows}

-- an end and a fault are not one, and two faults that are one come in one turn
end_no_fault : (s : instances.State) (f : Fault) (t u : ℕ) → ◌≡◌ {A = Answer instances.State Fault} (answers.End s t) (answers.Fault f u) → ⊥
end_no_fault s f t u e = cc

fault_turns : (f g : Fault) (t u : ℕ) → ◌≡◌ {A = Answer instances.State Fault} (answers.Fault f t) (answers.Fault g u) → t ≡ u
fault_turns f g t u e = cc

-- the cycle and the words of an end
abbrev done_with : PlainDesign → Answer instances.State Fault → Outcome
done_with d (answers.End after turns) = DoneAt turns (words_of (tree_of d) after)
done_with d (answers.Fault f t) = NotDone
done_with d answers.More = NotDone

module _ (d : PlainDesign) (words : List (List ℕ)) where
  abbrev run : ℕ → Answer instances.State Fault
  run n = run_main d words n

  grown : (n m : ℕ) → n ≤ m → (a : Answer instances.State Fault) → run n ≡ a → Grows n a (run m)
  grown n m le a e = subst (λ x. Grows n x (run m)) e (main_grows d words n m le)

  -- an end and a fault come within no two budgets
  pub end_or_fault : (n m : ℕ) (after : instances.State) (turns : ℕ) (f : Fault) (turn : ℕ) → run n ≡ answers.End after turns → run m ≡ answers.Fault f turn → ⊥
  end_or_fault n m after turns f turn ends faults =
      end_no_fault after f turns turn (sym (grown n (n + m) (omega arith) (answers.End after turns) ends).1 ∙ (grown m (n + m) (omega arith) (answers.Fault f turn) faults).1)

  one_end : (n m : ℕ) (s after : instances.State) (t turns : ℕ) → run n ≡ answers.End s t → run m ≡ answers.End after turns → ◌≡◌ {A = Answer instances.State Fault} (answers.End s t) (answers.End after turns)
  one_end n m s after t turns one other = sym (grown n (n + m) (omega arith) (answers.End s t) one).1 ∙ (grown m (n + m) (omega arith) (answers.End after turns) other).1

  one_fault : (n m : ℕ) (f g : Fault) (t u : ℕ) → run n ≡ answers.Fault f t → run m ≡ answers.Fault g u → t ≡ u
  one_fault n m f g t u one other = fault_turns f g t u (sym (grown n (n + m) (omega arith) (answers.Fault f t) one).1 ∙ (grown m (n + m) (omega arith) (answers.Fault g u) other).1)

-- ONE DESIGN AND ITS SOURCE, with memories that fit
module _ (d : PlainDesign) (source : PlainSource) (is : Realises d source) (ms : List PlainMemory) (fits : FitsRows (external_rows d) ms) where
  abbrev words : List (List ℕ)
  words = words_loaded ms

  -- where the run ends, done comes in no other cycle and with no other words
  ends_alone_by : (n turns : ℕ) (after : instances.State) → run_main d words n ≡ answers.End after turns → (budget cycle : ℕ) (left : List (List ℕ)) → SimRun source words budget (DoneAt cycle left)
      → (a : Answer instances.State Fault) → run_main d words cycle ≡ a → DoneAt turns (words_of (tree_of d) after) ≡ DoneAt cycle left
  ends_alone_by n turns after ends budget cycle left r (answers.End s t) e =
      let own = (grown d words cycle budget (cycle_within source words budget cycle left r) (answers.End s t) e).1 in
      ap (done_with d) (one_end d words n cycle after s turns t ends e) ∙ one_outcome (is.runs.ends ms budget t s fits own) r
  ends_alone_by n turns after ends budget cycle left r (answers.Fault f t) e = absurd (end_or_fault d words n cycle after turns f t ends e)
  ends_alone_by n turns after ends budget cycle left r answers.More e = absurd (is.runs.ends_only ms budget cycle left fits r e)

  pub ends_alone : (n turns : ℕ) (after : instances.State) → run_main d words n ≡ answers.End after turns → (budget cycle : ℕ) (left : List (List ℕ)) → SimRun source words budget (DoneAt cycle left)
      → DoneAt turns (words_of (tree_of d) after) ≡ DoneAt cycle left
  ends_alone n turns after ends budget cycle left r = ends_alone_by n turns after ends budget cycle left r (run_main d words cycle) refl

  -- where it has a fault in a turn, done comes in no cycle up to that number
  not_done_by : (n turn : ℕ) (f : Fault) → run_main d words n ≡ answers.Fault f turn → (cycle : ℕ) (left : List (List ℕ)) → SimRun source words turn (DoneAt cycle left)
      → (a : Answer instances.State Fault) → run_main d words cycle ≡ a → ⊥
  not_done_by n turn f faults cycle left r (answers.End s t) e = end_or_fault d words cycle n s t f turn e faults
  not_done_by n turn f faults cycle left r (answers.Fault g u) e =
      let low : u < cycle = (grown d words cycle cycle (omega arith) (answers.Fault g u) e).0 in
      let within : cycle ≤ turn = cycle_within source words turn cycle left r in
      let same : u ≡ turn = one_fault d words cycle n g f u turn e faults in
      omega (arith, low, within, same)
  not_done_by n turn f faults cycle left r answers.More e = is.runs.ends_only ms turn cycle left fits r e

  pub quiet_before : (n turn : ℕ) (f : Fault) → run_main d words n ≡ answers.Fault f turn → SimRun source words turn NotDone
  quiet_before n turn f faults = by_outcome (is.runs.never_stuck ms turn fits) where
    by_outcome : HasOutcome (SimRun source) words turn → SimRun source words turn NotDone
    by_outcome (comes cycle left r) = absurd (not_done_by n turn f faults cycle left r (run_main d words cycle) refl)
    by_outcome (waits r) = r

  -- from any power-up state it comes to the same
  pub from_any_power : IsReset source → (budget : ℕ) (o : Outcome) → SimRun source words budget o → (power : State) → HasPower source words power → PowerRun source power budget o
  from_any_power reset budget o r power has =
      forgets source reset words r (λ i k e. never_loops d source is ms budget i k fits (subst (SimRun source words budget) e r)) power has
