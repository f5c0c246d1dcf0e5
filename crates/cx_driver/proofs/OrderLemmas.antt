-- Where a woven run ends, the interpreter has no fault.
use Rattle.std.proofs.Common.{◌≡◌, ℕ, List, Result, Ok, Err, IfOk, refl}
use Rattle.std.proofs.Math.Logic.{∥∥₁_elim}
use Rattle.cx_text.specs.Loading.{PlainMemory, words_loaded}
use Rattle.cx_data.specs.Load.{load_of}
use Rattle.cx_data.specs.declared.faults.DataFault.{DataFault}
use Rattle.cx_meaning.specs.Answers as answers
use Rattle.cx_meaning.specs.Answers.{Answer}
use Rattle.cx_meaning.specs.Cycles.{Fault}
use Rattle.cx_meaning.specs.declared.sights.FaultKind.{FaultKind}
use Rattle.cx_meaning.specs.Designs.{PlainDesign}
use Rattle.cx_meaning.specs.Instances.{State}
use Rattle.cx_meaning.specs.Running.{run_main}
use Rattle.cx_rules.specs.Accepted.{IsAccepted}
use Rattle.cx_rules.specs.Externals.{external_rows}
use Rattle.cx_rules.specs.Wellformed.{IsDesign}
use Rattle.cx_orders.specs.Woven as woven
use Rattle.cx_orders.specs.Woven.{Woven, by_list}
use Rattle.cx_commands.specs.declared.stops.Stop.{Stop}
use Rattle.cx_commands.specs.declared.stops.Stop.TheVariants as stops
use Rattle.cx_compiler.specs.Interpreted.{told_of, loaded_result}
use Rattle.cx_compiler.specs.Laws.{NoneEnds}
use Rattle.cx_compiler.specs.Texts.{IsRunOf}
use Rattle.cx_compiler.proofs.PromiseLemmas.{of_run}
use Rattle.cx_driver.specs.Weaving.{told_woven, loaded_woven, IsDesignWoven, NeverFaults}

module _ (none : NoneEnds) (d : PlainDesign) (keeps : ∥ IsDesign d ∥₁) (accepted : IsAccepted d) (list : List ℕ) where
  -- of an end of one and a fault of the other
  not_both : (ms : List PlainMemory) (steps budget : ℕ) (answer : List ℕ) (kind : FaultKind) (path : List ℕ) (turn : ℕ)
      → (w : Woven) → woven.woven d (words_loaded ms) (by_list list) steps ≡ w → told_woven d ms steps w ≡ Ok answer
      → (a : Answer State Fault) → run_main d (words_loaded ms) budget ≡ a → Err (stops.Fault kind path turn) ≡ told_of d ms budget a → ⊥
  not_both ms steps budget answer kind path turn (woven.Ends after made sum) ends told (answers.Fault f t) faults said =
      ∥∥₁_elim keeps (λ p q. absurd p) (λ design. none d (words_loaded ms) (by_list list) budget steps f t after made sum design accepted faults ends)
  not_both ms steps budget answer kind path turn (woven.Ends after made sum) ends told (answers.End s t) faults said = cc
  not_both ms steps budget answer kind path turn (woven.Ends after made sum) ends told answers.More faults said = cc
  not_both ms steps budget answer kind path turn (woven.Faults f before) ends told a faults said = cc
  not_both ms steps budget answer kind path turn woven.More ends told a faults said = cc

  not_loaded : (json : List ℕ) (steps budget : ℕ) (answer : List ℕ) (kind : FaultKind) (path : List ℕ) (turn : ℕ) (loaded : Result (List PlainMemory) DataFault)
      → loaded_woven d list steps loaded ≡ Ok answer → Err (stops.Fault kind path turn) ≡ loaded_result d budget loaded → ⊥
  not_loaded json steps budget answer kind path turn (Ok ms) told said =
      not_both ms steps budget answer kind path turn (woven.woven d (words_loaded ms) (by_list list) steps) refl told (run_main d (words_loaded ms) budget) refl said
  not_loaded json steps budget answer kind path turn (Err fault) told said = cc

  pub never_faults : {X : Type 0} (bytes : X → List ℕ) (text json : List ℕ) (steps : ℕ) (r : Result X Stop) → IsRunOf text d → IfOk r (λ x. IsDesignWoven d list json steps (bytes x)) → IfOk r (λ _. NeverFaults text json)
  never_faults bytes text json steps (Ok x) stands h = λ budget kind path turn i.
      not_loaded json steps budget (bytes x) kind path turn (load_of json (external_rows d)) h (of_run text d stands json budget (Err (stops.Fault kind path turn)) i)
  never_faults bytes text json steps (Err stop) stands h = tt
