use Rattle.std.proofs.Common.{◌≡◌, ◌+◌, get_or, if◌then◌else◌, refl, sym, ◌∙◌, subst, take}
use Rattle.cx_eval_cycle.specs.Passes.{cell_held, listed_in}
use Rattle.cx_eval_cycle.specs.Steps.{CanStepAt, after_room}
use Rattle.cx_eval_cycle.proofs.PassLemmas.{all_listed, is_listed, listed_more, not_stepped, not_yet, stepped_more}
use Rattle.cx_eval_cycle.proofs.passes.step_listed.Goals as goal

pub loop-number-init : goal.loop-number-init
loop-number-init c = record { long = refl; fits = c.requires.fits; stepped = λ n. refl }

pub step_at-requires-clause-can : goal.step_at-requires-clause-can
step_at-requires-clause-can c =
    let xs = c.args.listed.now in
    let k = c.loop-number.number in
    let lt = c.loop-number-test.true in
    let n = get_or xs k 0 in
    subst (CanStepAt c.args.cells.now c.args.rooms.now n)
    (sym (not_stepped (after_room c.args.cells.now c.args.rooms.now) (listed_in (take k xs)) c.args.held.now c.loop-number.held c.loop-number.invariant.stepped n (not_yet xs k c.requires.ascending lt)))
    (c.requires.can n (is_listed xs k lt))

pub loop-number-preserved : goal.loop-number-preserved
loop-number-preserved c =
    let xs = c.args.listed.now in
    let k = c.loop-number.number in
    let lt = c.loop-number-test.true in
    record {
      long = c.step_at.ensures.long ∙ c.loop-number.invariant.long;
      fits = c.step_at.ensures.fits c.loop-number.invariant.fits;
      stepped = stepped_more (after_room c.args.cells.now c.args.rooms.now) (listed_in (take k xs)) (listed_in (take (k + 1) xs)) (get_or xs k 0) c.args.held.now c.loop-number.held c.step_at.new.held (not_yet xs k c.requires.ascending lt)
          (λ n. listed_more xs k n lt) c.loop-number.invariant.stepped c.step_at.ensures.value;
    }

pub returns-clause-value : goal.returns-clause-value
returns-clause-value c =
    let xs = c.args.listed.now in
    let past = c.loop-number-test.false in
    λ n. subst (λ b. cell_held c.loop-number.held n ≡ (if b then after_room c.args.cells.now c.args.rooms.now n (cell_held c.args.held.now n) else cell_held c.args.held.now n))
    (all_listed xs c.loop-number.number n past) (c.loop-number.invariant.stepped n)

pub returns-clause-fits : goal.returns-clause-fits
returns-clause-fits c = c.loop-number.invariant.fits
