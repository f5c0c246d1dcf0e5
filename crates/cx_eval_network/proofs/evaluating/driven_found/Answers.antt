use Rattle.std.proofs.Common.{◌≡◌, suc, ◌-◌, drop, sym, ap, ◌∙◌, arith}
use Rattle.cx_eval_drives.specs.Drives.{drive_of, offset_by, with_assign}
use Rattle.cx_eval_drives.proofs.DriveLemmas.{seen_of}
use Rattle.cx_eval_network.specs.Planned.{assign_plan, numbered_assign}
use Rattle.cx_eval_network.proofs.EvaluateLemmas.{ended, needed_at, stand_at}
use Rattle.cx_eval_network.proofs.evaluating.driven_found.Goals as goal

pub returns-in-Some : goal.returns-in-Some
returns-in-Some c = record {
  value = λ i owned look stand agree.
      let left = c.loop-left.left in
      let within = c.loop-left.invariant.within in
      let some = c.loop-left-test.true in
      let at = stand_at numbered_assign (assign_plan i) c.args.plan.now.assigns.items owned (left - 1) c.index.result.now stand (omega (arith, within, some)) c.index.ensures in
      let lacks = c.in-Some.ensures.waits i at.0 at.1 in
      (needed_at i (offset_by c.args.active.now) owned (left - 1) at.0 _ c.in-Some.number at.2 lacks.named, lacks.unknown);
}

pub loop-left-preserved : goal.loop-left-preserved
loop-left-preserved c =
    let left = c.loop-left.left in
    let within = c.loop-left.invariant.within in
    let some = c.loop-left-test.true in
    record {
      within = omega (arith, within);
      drive = λ i owned look stand agree.
          let offset = offset_by c.args.active.now in
          let at = stand_at numbered_assign (assign_plan i) c.args.plan.now.assigns.items owned (left - 1) c.index.result.now stand (omega (arith, within, some)) c.index.ensures in
          let back : left ≡ suc (left - 1) = omega (arith, some) in
          c.in_default.ensures.value i at.0 look at.1 agree
          ∙ ap (with_assign look (offset (at.0).owner) at.0) (c.loop-left.invariant.drive i owned look stand agree ∙ ap (λ n. drive_of look offset (drop n owned)) back)
          ∙ sym (ap (drive_of look offset) at.2);
    }

pub returns-in-Stopped : goal.returns-in-Stopped
returns-in-Stopped c =
    let none : c.loop-left.left ≡ 0 = omega arith in
    record {
      value = λ i owned look stand agree.
          ended c.args.plan.now.undriven c.in-Stopped.by look (offset_by c.args.active.now) owned c.loop-left.left c.loop-left.drive none (c.loop-left.invariant.drive i owned look stand agree)
          (ap (seen_of c.args.plan.now.undriven) (sym c.in-Stopped.is));
    }

pub returns-in-Nothing : goal.returns-in-Nothing
returns-in-Nothing c =
    let none : c.loop-left.left ≡ 0 = omega arith in
    record {
      value = λ i owned look stand agree.
          ended c.args.plan.now.undriven c.args.plan.now.undriven look (offset_by c.args.active.now) owned c.loop-left.left c.loop-left.drive none (c.loop-left.invariant.drive i owned look stand agree)
          (ap (seen_of c.args.plan.now.undriven) (sym c.in-Nothing.is));
    }

pub returns-in-Gives : goal.returns-in-Gives
returns-in-Gives c =
    let none : c.loop-left.left ≡ 0 = omega arith in
    record {
      value = λ i owned look stand agree.
          ended c.args.plan.now.undriven c.in-Gives.seen look (offset_by c.args.active.now) owned c.loop-left.left c.loop-left.drive none (c.loop-left.invariant.drive i owned look stand agree)
          (ap (seen_of c.args.plan.now.undriven) (sym c.in-Gives.is));
    }
