use Rattle.std.proofs.Common.{◌+◌, length, ap, ◌∙◌, arith}
use Rattle.std.proofs.lemmas.List.{length-append, length-map}
use Rattle.cx_design.specs.PlainForms.{plain_component}
use Rattle.cx_eval_network.proofs.FoundLemmas.{get_some}
use Rattle.cx_eval_network.proofs.ListingLemmas.{lists_more}
use Rattle.cx_eval_network.proofs.listing.all_lists.Goals as goal

pub component-requires : goal.component-requires
component-requires c = record {
  within = let n = c.loop-number-test.true in let many = c.requires.plans.count in let all = length-map c.args.design.now.components.items plain_component in omega (arith, n, many, all);
}

pub bounds-parts-number : goal.bounds-parts-number
bounds-parts-number c = let n = c.loop-number-test.true in let many = c.requires.plans.count in let all = c.requires.parts.count in omega (arith, n, many, all)

pub loop-number-preserved : goal.loop-number-preserved
loop-number-preserved c =
    let n = c.loop-number.number in
    let sized = c.loop-number.invariant.sized in
    record {
      sized = ap length c.in_ok-push.ensures.items ∙ length-append c.loop-number.lists.items _ ∙ ap (λ k. k + 1) sized;
      each = lists_more c.args.parts.now c.args.plans.now c.loop-number.lists.items _ n c.index-parts-number.result c.index-plans-number.result c.in_ok-own.own sized
          (get_some c.args.parts.now n c.index-parts-number.result (let lt = c.loop-number-test.true in let many = c.requires.plans.count in let all = c.requires.parts.count in omega (arith, lt, many, all)) c.index-parts-number.is)
          (get_some c.args.plans.now n c.index-plans-number.result c.loop-number-test.true c.index-plans-number.is)
          c.in_ok-own.ensures.value c.in_ok-push.ensures.items c.loop-number.invariant.each;
    }
