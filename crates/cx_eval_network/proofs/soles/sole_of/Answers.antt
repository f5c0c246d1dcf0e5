use Rattle.std.proofs.Common.{◌≡◌, suc, ◌-◌, drop, refl, sym, ap, subst, arith}
use Rattle.cx_eval_drives.specs.Drives.{drive_of, offset_by}
use Rattle.cx_eval_network.specs.Lists.{IsSole}
use Rattle.cx_eval_network.specs.Planned.{assign_plan, numbered_assign}
use Rattle.cx_eval_network.proofs.EvaluateLemmas.{stand_at}
use Rattle.cx_eval_network.proofs.SoleLemmas.{none_left}
use Rattle.cx_eval_network.proofs.soles.sole_of.Goals as goal

pub loop-left-init : goal.loop-left-init
loop-left-init c = record {
  within = omega arith;
  sole = λ other same i owned look own stand agree. none_left i c.args.assigns.now owned look (offset_by other) _ stand refl;
}

pub loop-left-preserved : goal.loop-left-preserved
loop-left-preserved c =
    let left = c.loop-left.left in
    let within = c.loop-left.invariant.within in
    let some = c.loop-left-test.true in
    record {
      within = omega (arith, within);
      sole = λ other same i owned look own stand agree.
          let offset = offset_by other in
          let at = stand_at numbered_assign (assign_plan i) c.args.assigns.now owned (left - 1) c.index-assigns-left.result stand (omega (arith, within, some)) c.index-assigns-left.is in
          let back : left ≡ suc (left - 1) = omega (arith, some) in
          subst (IsSole own c.sole_with-sole.result) (sym (ap (drive_of look offset) at.2))
          (c.sole_with-sole.ensures.value other same i at.0 look own _ at.1 agree (subst (λ n. IsSole own c.loop-left.sole (drive_of look offset (drop n owned))) back (c.loop-left.invariant.sole other same i owned look own stand agree)));
    }

pub returns : goal.returns
returns c =
    let none : c.loop-left.left ≡ 0 = omega arith in
    record {
      value = λ other same i owned look own stand agree.
          subst (λ n. IsSole own c.loop-left.sole (drive_of look (offset_by other) (drop n owned))) none (c.loop-left.invariant.sole other same i owned look own stand agree);
    }
