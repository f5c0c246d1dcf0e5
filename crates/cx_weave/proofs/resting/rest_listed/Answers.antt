use Rattle.std.proofs.Common.{◌≡◌, ◌+◌, ◌<◌, ◌≤◌, get_or, length, take, sym, ap, ◌∙◌, subst, arith}
use Rattle.std.proofs.Math.Path.{fun_ext}
use Rattle.cx_meaning.specs.Instances.{Set}
use Rattle.cx_eval_cycle.specs.Passes.{listed_in}
use Rattle.cx_eval_cycle.proofs.PassLemmas.{listed_more, not_yet}
use Rattle.cx_turns.specs.Machines.{design_of, rows_of}
use Rattle.cx_turns.specs.Rooms.{HasRoom}
use Rattle.cx_weave.specs.Deep.{IsDeep, with_one}
use Rattle.cx_weave.proofs.RestSteps.{deep_starts, deep_ends}
use Rattle.cx_text.proofs.ListLaws.{take_all}
use Rattle.cx_weave.proofs.resting.rest_listed.Goals as goal

pub loop-cell-init : goal.loop-cell-init
loop-cell-init c =
    let d = design_of c.args.plan.now in (
      record {
        evaluator = c.rest.ensures.evaluator ∙ c.requires.machine.evaluator;
        state = c.rest.ensures.rested.fits;
        room = subst (λ r. HasRoom d r) (sym c.rest.ensures.room) c.requires.machine.room;
      },
      deep_starts d c.args.instance (rows_of c.args.machine.now) (rows_of c.rest.new.machine) (listed_in c.args.listed.now) c.rest.ensures.rested,
    )

pub rest_below-requires-clause-cell : goal.rest_below-requires-clause-cell
rest_below-requires-clause-cell c path number =
    let less : c.loop-cell.cell-index < length c.args.listed.now = omega (arith, c.loop-cell-test.true, c.loop-cell.auto.cell-index-end) in
    c.requires.within path number c.loop-cell.cell-index 0 less

pub loop-cell-preserved : goal.loop-cell-preserved
loop-cell-preserved c =
    let d = design_of c.args.plan.now in
    let less : c.loop-cell.cell-index < length c.args.listed.now = omega (arith, c.loop-cell-test.true, c.loop-cell.auto.cell-index-end) in
    let more : listed_in (take (c.loop-cell.cell-index + 1) c.args.listed.now) ≡ with_one (get_or c.args.listed.now c.loop-cell.cell-index 0) (listed_in (take c.loop-cell.cell-index c.args.listed.now)) =
    fun_ext (λ k. listed_more c.args.listed.now c.loop-cell.cell-index k less) in (
      c.rest_below.ensures.machine,
      subst (λ (set : Set). IsDeep d (rows_of c.args.machine.now) (rows_of c.rest_below.new.machine) c.args.instance set (listed_in c.args.listed.now)) (sym more)
          (c.rest_below.ensures.rested (rows_of c.args.machine.now) (listed_in (take c.loop-cell.cell-index c.args.listed.now)) (listed_in c.args.listed.now) (not_yet c.args.listed.now c.loop-cell.cell-index c.requires.ascending less) c.loop-cell.invariant.1),
    )

pub returns-clause-rested : goal.returns-clause-rested
returns-clause-rested c driven lists =
    let d = design_of c.args.plan.now in
    let past : length c.args.listed.now ≤ c.loop-cell.cell-index = omega (arith, c.loop-cell-test.false, c.loop-cell.auto.cell-index-end) in
    deep_ends d c.args.instance (rows_of c.args.machine.now) (rows_of c.loop-cell.machine) (listed_in (take c.loop-cell.cell-index c.args.listed.now)) (listed_in c.args.listed.now) driven
    (λ path number. fun_ext (λ k. lists path k number))
    (λ path k child number e. ap (λ xs. listed_in xs k) (take_all c.args.listed.now c.loop-cell.cell-index past))
    c.loop-cell.invariant.1
