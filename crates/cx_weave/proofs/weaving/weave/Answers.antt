use Rattle.std.proofs.Common.{◌≡◌, sym, subst}
use Rattle.cx_text.specs.Loading.{FitsRows, plain_loaded, with_words}
use Rattle.cx_meaning.specs.Instances.{tree_of, words_of}
use Rattle.cx_rules.specs.Accepted.{IsAccepted}
use Rattle.cx_rules.specs.Externals.{external_rows}
use Rattle.cx_rules.specs.Wellformed.{IsDesign}
use Rattle.cx_design.specs.declared.designs.Design.{Design}
use Rattle.cx_design.specs.PlainDesigns.{plain_design}
use Rattle.cx_turns.specs.Machines.{rows_of}
use Rattle.cx_state.specs.States.{words_in, StandsFor}
use Rattle.cx_weave.specs.Results.{EndsIn, LeavesWords}
use Rattle.cx_orders.specs.Woven.{by_list, woven}
use Rattle.cx_weave.proofs.EndSteps.{given_ends, tells_woven, tells_run, tells_arm, words_kept, words_wrote}
use Rattle.cx_weave.proofs.weaving.weave.Goals as goal
use Rattle.cx_weave.proofs.weaving.weave.Goals.{in-End, in_default}

pub external_words-requires-clause-fits : goal.external_words-requires-clause-fits
external_words-requires-clause-fits c = subst (λ (e : Design). FitsRows (external_rows (plain_design e)) (plain_loaded c.args.loaded.now)) (sym c.in_ok-begun.ensures.ready.design) c.requires.fits

pub returns-clause-woven : goal.returns-clause-woven
returns-clause-woven c =
    let d = plain_design c.args.design.now in
    let words = words_in c.args.loaded.now.memories.items in
    let ready = c.in_ok-begun.ensures.ready in
    let x = woven d words (by_list c.args.list.now) c.args.steps in
    let rows = rows_of c.weave_plan.new.machine in
    let ends : EndsIn d rows c.in_ok-wove.wove x =
    given_ends c.in_ok-begun.begun.plan.design.now c.args.design.now ready.design (by_list c.args.list.now) c.args.steps (rows_of c.in_ok-begun.begun.machine) words rows c.in_ok-wove.wove c.in_ok-wove.ensures.woven ready.stands in
    tells_woven d rows x c.in_ok-wove.wove ends

pub returns-clause-run : goal.returns-clause-run
returns-clause-run c =
    let d = plain_design c.args.design.now in
    let words = words_in c.args.loaded.now.memories.items in
    let ready = c.in_ok-begun.ensures.ready in
    let x = woven d words (by_list c.args.list.now) c.args.steps in
    let rows = rows_of c.weave_plan.new.machine in
    let ends : EndsIn d rows c.in_ok-wove.wove x =
    given_ends c.in_ok-begun.begun.plan.design.now c.args.design.now ready.design (by_list c.args.list.now) c.args.steps (rows_of c.in_ok-begun.begun.machine) words rows c.in_ok-wove.wove c.in_ok-wove.ensures.woven ready.stands in
    let design : IsDesign d = subst (λ (e : Design). IsDesign (plain_design e)) ready.design ready.plan.design in
    let accepted : IsAccepted d = subst (λ (e : Design). IsAccepted (plain_design e)) ready.design ready.plan.accepted in
    tells_run d rows x words c.in_ok-wove.wove (λ after made sum is. c.run_ends_too.ensures d words (by_list c.args.list.now) c.args.steps after made sum design accepted is)
    (λ fault made is. c.run_faults_too.ensures.run d words (by_list c.args.list.now) c.args.steps fault made design accepted is) ends

pub returns-clause-arm : goal.returns-clause-arm
returns-clause-arm c =
    let d = plain_design c.args.design.now in
    let words = words_in c.args.loaded.now.memories.items in
    let ready = c.in_ok-begun.ensures.ready in
    let x = woven d words (by_list c.args.list.now) c.args.steps in
    let rows = rows_of c.weave_plan.new.machine in
    let ends : EndsIn d rows c.in_ok-wove.wove x =
    given_ends c.in_ok-begun.begun.plan.design.now c.args.design.now ready.design (by_list c.args.list.now) c.args.steps (rows_of c.in_ok-begun.begun.machine) words rows c.in_ok-wove.wove c.in_ok-wove.ensures.woven ready.stands in
    let design : IsDesign d = subst (λ (e : Design). IsDesign (plain_design e)) ready.design ready.plan.design in
    let accepted : IsAccepted d = subst (λ (e : Design). IsAccepted (plain_design e)) ready.design ready.plan.accepted in
    tells_arm d rows x words (by_list c.args.list.now) c.in_ok-wove.wove (λ fault made is. c.run_faults_too.ensures.arm d words (by_list c.args.list.now) c.args.steps fault made design accepted is) ends

pub returns-clause-words : goal.returns-clause-words
returns-clause-words c =
    let d = plain_design c.args.design.now in
    let words = words_in c.args.loaded.now.memories.items in
    let ready = c.in_ok-begun.ensures.ready in
    let x = woven d words (by_list c.args.list.now) c.args.steps in
    let rows = rows_of c.weave_plan.new.machine in
    let old = plain_loaded c.args.loaded.now in
    let ends : EndsIn d rows c.in_ok-wove.wove x =
    given_ends c.in_ok-begun.begun.plan.design.now c.args.design.now ready.design (by_list c.args.list.now) c.args.steps (rows_of c.in_ok-begun.begun.machine) words rows c.in_ok-wove.wove c.in_ok-wove.ensures.woven ready.stands in
    elim c.match-wove.branch [
      | in-End w ↦
          subst (λ l. LeavesWords d old (plain_loaded l) x) (sym w.loaded-is)
          (words_wrote d rows x old (plain_loaded w.external_words.new.into) c.in_ok-wove.wove _ _ w.in-End.is
          (λ s stands.
          subst (λ (e : Design). plain_loaded w.external_words.new.into ≡ with_words old (words_of (tree_of (plain_design e)) s)) ready.design
          (w.external_words.ensures.words s (subst (λ (e : Design). StandsFor (tree_of (plain_design e)) rows s) (sym ready.design) stands))) ends)
      | in_default w ↦
          subst (λ l. LeavesWords d old (plain_loaded l) x) (sym w.loaded-is) (words_kept d rows x old c.in_ok-wove.wove (λ made sum is. w.in_default.not-End made sum is) ends)
    ]
