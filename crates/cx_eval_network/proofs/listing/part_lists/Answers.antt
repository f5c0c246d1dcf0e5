use Rattle.std.proofs.Common.{◌+◌, length, ap, ◌∙◌, subst}
use Rattle.std.proofs.lemmas.List.{length-append}
use Rattle.cx_design.specs.declared.actives.Active.TheVariants.{Group}
use Rattle.cx_eval_network.specs.Lists.{AreGroupPorts}
use Rattle.cx_eval_network.proofs.ListingLemmas.{groups_more}
use Rattle.cx_eval_network.proofs.listing.part_lists.Goals as goal

pub loop-number-preserved : goal.loop-number-preserved
loop-number-preserved c =
    let n = c.loop-number.number in
    let sized = c.loop-number.invariant.sized in
    let ports = c.args.part.now.ports.items in
    let plans = c.args.plans.now.ports.items in
    let group = c.in_ok-own.own in
    let own = subst (λ k. AreGroupPorts ports plans (Group k) group) c.in_ok-narrow.ensures.value (subst (λ xs. AreGroupPorts ports xs (Group c.in_ok-narrow.field-0) group) c.as_slice.ensures.value c.in_ok-own.ensures.value) in
    record {
      sized = ap length c.in_ok-push.ensures.items ∙ length-append c.loop-number.groups.items _ ∙ ap (λ k. k + 1) sized;
      each = groups_more ports plans c.loop-number.groups.items _ n group sized own c.in_ok-push.ensures.items c.loop-number.invariant.each;
    }
