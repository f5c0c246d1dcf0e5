use Rattle.std.proofs.Common.{◌≡◌, ◌+◌, ◌*◌, ◌^◌, ◌<◌, ◌≤◌, sym, subst, arith}
use Rattle.cx_profile.proofs.StepLemmas.{StillAt, width_found, width_next, width_last, named_next}
use Rattle.cx_profile.proofs.stores.address_width.Goals as goal

pub returns-then-from-named : goal.returns-then-from-named
returns-then-from-named c =
    let fits : c.args.words ≤ 2 ^ c.loop-step.width = omega (arith, c.loop-step.invariant.named) in
    record { value = width_found c.args.words c.loop-step.width c.loop-step.step c.loop-step-test.true fits c.loop-step.invariant.left }

pub loop-step-preserved : goal.loop-step-preserved
loop-step-preserved c =
    let more : 2 ^ c.loop-step.width < c.args.words = omega (arith, c.loop-step.invariant.named) in
    let one : c.loop-step.width + 1 ≡ c.in_ok-width.width = sym c.in_ok-width.ensures.value in
    record {
      named = subst (λ w. c.loop-step.named * 2 ≡ 2 ^ w) one (named_next c.loop-step.named c.loop-step.width c.loop-step.invariant.named);
      left = subst (λ w. StillAt c.args.words w (c.loop-step.step + 1)) one (width_next c.args.words c.loop-step.width c.loop-step.step more c.loop-step.invariant.left);
    }

pub returns : goal.returns
returns c = record { value = width_last c.args.words c.loop-step.width c.loop-step.step c.loop-step-test.false c.loop-step.auto.step-end c.loop-step.invariant.left }
