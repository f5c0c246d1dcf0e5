-- What a woven run tells, from the rows that it leaves.
use Rattle.std.proofs.Common.{◌≡◌, ℕ, suc, ◌≤◌, List, refl, sym, subst}
use Rattle.cx_text.specs.Loading.{PlainMemory, with_words}
use Rattle.cx_meaning.specs.Answers as answers
use Rattle.cx_meaning.specs.Cycles as cycles
use Rattle.cx_meaning.specs.Designs.{PlainDesign}
use Rattle.cx_meaning.specs.Instances.{State, start, tree_of, words_of}
use Rattle.cx_design.specs.declared.designs.Design.{Design}
use Rattle.cx_design.specs.PlainDesigns.{plain_design}
use Rattle.cx_meaning.specs.Running.{run_main}
use Rattle.cx_state.specs.States.{PlainInstance, StandsFor}
use Rattle.cx_weave.specs.declared.weaving.Wove.{Wove}
use Rattle.cx_weave.specs.declared.weaving.Wove.TheVariants.{End, Fault, More}
use Rattle.cx_weave.specs.Results.{EndsIn, LeavesWords, TellsArm, TellsRun, TellsWoven}
use Rattle.cx_orders.specs.Alone.{LeafHasAlone}
use Rattle.cx_orders.specs.Woven as woven
use Rattle.cx_orders.specs.Woven.{Choices, Woven}

module _ (d : PlainDesign) (rows : List PlainInstance) (x : Woven) where
  pub tells_woven : (wove : Wove) → EndsIn d rows wove x → TellsWoven d wove x
  tells_woven (End made sum) (after, is, stands) = (after, is)
  tells_woven (Fault told made) e = e
  tells_woven More e = e

  -- the run of main
  pub tells_run : (words : List (List ℕ)) (wove : Wove) → ((after : State) (made sum : ℕ) → x ≡ woven.Ends after made sum → (turns : ℕ) × (run_main d words made ≡ answers.End after turns) × (turns ≤ made))
      → ((fault : cycles.Fault) (made : ℕ) → x ≡ woven.Faults fault made → (first : cycles.Fault) × (turn : ℕ) × (run_main d words (suc made) ≡ answers.Fault first turn) × (turn ≤ made)) → EndsIn d rows wove x → TellsRun d words wove x
  tells_run words (End made sum) ends faults (after, is, stands) = (after, (ends after made sum is).0, is, (ends after made sum is).1, (ends after made sum is).2)
  tells_run words (Fault told made) ends faults (fault, tells, is) = faults fault made is
  tells_run words More ends faults e = tt

  -- the arm that has the fault alone
  pub tells_arm : (words : List (List ℕ)) (choice : Choices) (wove : Wove) → ((fault : cycles.Fault) (made : ℕ) → x ≡ woven.Faults fault made → LeafHasAlone d words choice fault made) → EndsIn d rows wove x → TellsArm d words choice wove x
  tells_arm words choice (End made sum) alone e = tt
  tells_arm words choice (Fault told made) alone (fault, tells, is) = (fault, is, alone fault made is)
  tells_arm words choice More alone e = tt

  -- the words of an order that ends
  pub words_end : (old new : List PlainMemory) (made sum : ℕ) → ((s : State) → StandsFor (tree_of d) rows s → new ≡ with_words old (words_of (tree_of d) s)) → EndsIn d rows (End made sum) x → LeavesWords d old new x
  words_end old new made sum wrote (after, is, stands) = subst (LeavesWords d old new) (sym is) (wrote after stands)

  pub words_wrote : (old new : List PlainMemory) (wove : Wove) (made sum : ℕ) → wove ≡ End made sum → ((s : State) → StandsFor (tree_of d) rows s → new ≡ with_words old (words_of (tree_of d) s)) → EndsIn d rows wove x → LeavesWords d old new x
  words_wrote old new wove made sum is wrote ends = words_end old new made sum wrote (subst (λ w. EndsIn d rows w x) is ends)

  pub words_kept : (old : List PlainMemory) (wove : Wove) → ((made sum : ℕ) → wove ≡ End made sum → ⊥) → EndsIn d rows wove x → LeavesWords d old old x
  words_kept old (End made sum) none e = absurd (none made sum refl)
  words_kept old (Fault told made) none (fault, tells, is) = subst (LeavesWords d old old) (sym is) refl
  words_kept old More none is = subst (LeavesWords d old old) (sym is) refl

-- WHAT IS SAID OF A PLAN'S DESIGN is said of the design that was given
module _ (own given : Design) (same : own ≡ given) (choice : Choices) (steps : ℕ) (first : List PlainInstance) (words : List (List ℕ)) where
  pub given_ends : (rows : List PlainInstance) (wove : Wove)
      → ((ws : List (List ℕ)) → StandsFor (tree_of (plain_design own)) first (start (tree_of (plain_design own)) ws) → EndsIn (plain_design own) rows wove (woven.woven (plain_design own) ws choice steps))
      → StandsFor (tree_of (plain_design given)) first (start (tree_of (plain_design given)) words) → EndsIn (plain_design given) rows wove (woven.woven (plain_design given) words choice steps)
  given_ends rows wove ends stands =
      subst (λ (e : Design). EndsIn (plain_design e) rows wove (woven.woven (plain_design e) words choice steps)) same
      (ends words (subst (λ (e : Design). StandsFor (tree_of (plain_design e)) first (start (tree_of (plain_design e)) words)) (sym same) stands))
