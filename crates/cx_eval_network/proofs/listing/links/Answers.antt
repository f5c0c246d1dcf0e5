use Rattle.std.proofs.Common.{◌+◌, length, ap, ◌∙◌, subst, arith}
use Rattle.std.proofs.lemmas.List.{length-append, length-map}
use Rattle.cx_graphs.specs.Graphs.{edges_of}
use Rattle.cx_eval_network.proofs.ListingLemmas.{LeadsBelow, edges_more}
use Rattle.cx_eval_network.proofs.listing.links.Goals as goal

pub loop-number-preserved : goal.loop-number-preserved
loop-number-preserved c = record {
  sized = ap length c.in_ok-push.ensures.items ∙ length-append c.loop-number.graph.items _ ∙ ap (λ k. k + 1) c.loop-number.invariant.sized;
  below = edges_more (length c.args.ports.now) c.loop-number.graph.items _ c.in_ok-places.places c.loop-number.invariant.below c.in_ok-places.ensures.value c.in_ok-push.ensures.items;
}

pub returns : goal.returns
returns c = record {
  value =
      let sized = c.loop-number.invariant.sized in
      let all = c.loop-number-test.false in
      let within = c.loop-number.auto.number-index-end in
      let long = length-map c.loop-number.graph.items (λ list. list.items) in
      subst (λ n. LeadsBelow n (edges_of c.loop-number.graph.items)) (omega (arith, sized, all, within, long)) c.loop-number.invariant.below;
}
