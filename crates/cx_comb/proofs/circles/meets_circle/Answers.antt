use Rattle.std.proofs.Common.{◌≡◌, ◌∙◌, length, sym, subst, true≢false}
use Rattle.std.specs.Prelude.{◌↔◌, IsTrue}
use Rattle.std.proofs.lemmas.List.{length-map}
use Rattle.cx_graphs.specs.Graphs.{Bounded, edges_of, targets_of}
use Rattle.cx_graphs.specs.Ways.{HasCircleFrom, LeadsWithin, both}
use Rattle.cx_design_leads.specs.Nodes.{node_count}
use Rattle.cx_comb.proofs.CircleFacts.{pruned_length, pruned_graph, group_within}
use Rattle.cx_comb.proofs.OwnerLemmas.{no_circle_owned}
use Rattle.cx_comb.proofs.circles.meets_circle.Goals as goal

pub leads_back-requires : goal.leads_back-requires
leads_back-requires c =
    let i = c.requires.pruned.0 in
    let pruned = c.args.pruned.now in
    let group = c.requires.pruned.3 in
    let more = c.args.more.now in
    let long : length c.args.owners.now ≡ node_count i = c.requires.len ∙ sym (length-map pruned (λ v. v.items)) ∙ pruned_length i (edges_of pruned) c.requires.pruned.1 in
    record {
      targets = subst (λ n. Bounded n more.targets.items) (sym group.spread.same_length ∙ length-map more.edges.items (λ v. v.items)) group.spread.within;
      edges = λ n. subst (λ count. Bounded count (targets_of (edges_of more.edges.items) n)) (sym long) (group_within i c.args.group more group n);
    }

pub meets_circle-requires : goal.meets_circle-requires
meets_circle-requires c =
    let i = c.requires.pruned.0 in
    let pruned = c.args.pruned.now in
    let group = c.requires.pruned.3 in
    let long : length pruned ≡ node_count i = sym (length-map pruned (λ v. v.items)) ∙ pruned_length i (edges_of pruned) c.requires.pruned.1 in
    record {
      ready = c.requires.walk;
      graph = pruned_graph i (edges_of pruned) c.requires.pruned.1;
      more = subst (λ n. LeadsWithin n (edges_of c.as_slice.result.now)) (sym long)
          (subst (λ lists. LeadsWithin (node_count i) (edges_of lists)) (sym c.as_slice.ensures.value) (group_within i c.args.group c.args.more.now group));
      starts = subst (λ n. Bounded n c.as_slice-2.result.now) (sym long) (subst (Bounded (node_count i)) (sym c.as_slice-2.ensures.value) group.spread.within);
    }

pub returns-then-not-leads_back : goal.returns-then-not-leads_back
returns-then-not-leads_back c =
    let i = c.requires.pruned.0 in
    let group = c.requires.pruned.3 in
    let more = c.args.more.now in
    record {
      walk = c.requires.walk;
      value = (
        λ e. absurd (true≢false (sym e)),
        λ circle. absurd (no_circle_owned i (edges_of c.args.pruned.now) (edges_of more.edges.items) c.args.owners.now c.args.group c.requires.pruned.1 c.requires.pruned.2 group.edges
            (λ m n e. c.leads_back.ensures.never c.if-not-leads_back.true m n (group.spread.from_targets m n e) e) (circle.0, circle.2)),
      );
    }

pub returns : goal.returns
returns c =
    let pruned = edges_of c.args.pruned.now in
    let more = c.args.more.now in
    let found = c.in_ok-found.found in
    record {
      walk = c.in_ok-found.ensures.ready;
      value = subst (λ l. IsTrue found ↔ HasCircleFrom (both pruned (edges_of more.edges.items)) l) c.as_slice-2.ensures.value
          (subst (λ l. IsTrue found ↔ HasCircleFrom (both pruned (edges_of l)) c.as_slice-2.result.now) c.as_slice.ensures.value c.in_ok-found.ensures.value);
    }
