use Rattle.std.proofs.Common.{map, sym, ap, ◌∙◌, subst}
use Rattle.cx_rules.specs.Items.{operands_of}
use Rattle.cx_eval_drives.specs.Drives.{offset_by, with_assign, with_driver}
use Rattle.cx_eval_network.specs.Evaluated.{Gives, port_found, truth_shown}
use Rattle.cx_eval_network.specs.Lacking.{unknown_in}
use Rattle.cx_eval_network.specs.Planned.{NumberedAssign, numbers_of}
use Rattle.cx_eval_network.proofs.EvaluateLemmas.{guard_needed, if_none, source_gives, truth_is}
use Rattle.cx_eval_network.proofs.LackLemmas.{first_none, first_some}
use Rattle.cx_eval_network.proofs.evaluating.add_assign.Goals as goal

pub returns-in-Some-clause-waits : goal.returns-in-Some-clause-waits
returns-in-Some-clause-waits c = λ i a e.
    let own = c.args.own.now in
    let named = ap (λ (x : NumberedAssign). x.named) e in
    let lacks = first_some own (numbers_of i (map (λ q. q.port) (operands_of a.assign.guard))) c.in-Some.number (c.in-Some.ensures.value ∙ ap (unknown_in own) (c.as_slice.ensures.value ∙ named)) in
    record {
      named = guard_needed i (offset_by c.args.active.now) a c.in-Some.number c.in_ok-offset.offset (c.in_ok-offset.ensures ∙ ap (λ (x : NumberedAssign). offset_by c.args.active.now x.owner) e) lacks.0;
      unknown = lacks.1;
    }

pub returns-in-None-clause-value : goal.returns-in-None-clause-value
returns-in-None-clause-value c = if_none c.add_driver.result _ _
    (λ f i a look e agree.
    let own = c.args.own.now in
    let offset = c.in_ok-offset.offset in
    let old = c.args.drive.now in
    let q = a.assign.source.port in
    let named = ap (λ (x : NumberedAssign). x.named) e in
    f (look q) (subst (λ s. Gives (look q) (port_found own s)) (sym (ap (λ (x : NumberedAssign). x.source) e)) (source_gives i look own agree q))
    ∙ ap (λ t. with_driver t (look q) old)
    (c.planned_truth-guard.ensures.value ∙ ap (λ (x : NumberedAssign). truth_shown own offset x.guard) e
    ∙ truth_is i look own agree offset a.assign.guard
    (first_none own (numbers_of i (map (λ q. q.port) (operands_of a.assign.guard))) (c.in-None.ensures.value ∙ ap (unknown_in own) (c.as_slice.ensures.value ∙ named))))
    ∙ ap (λ o. with_assign look o a old) (c.in_ok-offset.ensures ∙ ap (λ (x : NumberedAssign). offset_by c.args.active.now x.owner) e))
    c.add_driver.ensures.value
