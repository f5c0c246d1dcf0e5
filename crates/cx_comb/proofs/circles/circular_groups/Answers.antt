use Rattle.std.proofs.Common.{◌+◌, ◌∷◌, [], length, sym, ap, ◌∙◌, subst}
use Rattle.std.proofs.lemmas.List.{length-append}
use Rattle.cx_graphs.specs.Graphs.{edges_of}
use Rattle.cx_rules.specs.Ports.{component_of}
use Rattle.cx_design.specs.PlainDesigns.{plain_design}
use Rattle.cx_comb.specs.Owning.{AreOwners}
use Rattle.cx_comb.specs.Pruning.{ServesGroups}
use Rattle.cx_comb.proofs.CircleFacts.{more_circles, served}
use Rattle.cx_comb.proofs.circles.circular_groups.Goals as goal

pub owners-requires-clause-pruned : goal.owners-requires-clause-pruned
owners-requires-clause-pruned c =
    let i = component_of (plain_design c.args.design.now) c.args.number in
    subst (λ lists. ServesGroups i (edges_of lists)) (sym c.as_slice.ensures.value)
    (served i (edges_of c.args.graph.now) (edges_of c.in_ok-pruned.pruned.items) c.requires.graph c.requires.no_circle c.in_ok-pruned.ensures.value)

pub is_circular-requires-clause-pruned : goal.is_circular-requires-clause-pruned
is_circular-requires-clause-pruned c =
    let i = component_of (plain_design c.args.design.now) c.args.number in
    subst (λ lists. ServesGroups i (edges_of lists)) (sym c.as_slice-in-loop-group.ensures.value)
    (served i (edges_of c.args.graph.now) (edges_of c.in_ok-pruned.pruned.items) c.requires.graph c.requires.no_circle c.in_ok-pruned.ensures.value)

pub is_circular-requires-clause-owners : goal.is_circular-requires-clause-owners
is_circular-requires-clause-owners c =
    let i = component_of (plain_design c.args.design.now) c.args.number in
    subst (AreOwners i (edges_of c.as_slice-in-loop-group.result.now)) (sym c.as_slice-in-loop-group-2.ensures.value)
    (subst (λ lists. AreOwners i (edges_of lists) c.in_ok-owners.owners.items) (c.as_slice.ensures.value ∙ sym c.as_slice-in-loop-group.ensures.value) c.in_ok-owners.ensures.value)

pub is_circular-requires-clause-len : goal.is_circular-requires-clause-len
is_circular-requires-clause-len c = ap length c.as_slice-in-loop-group-2.ensures.value ∙ c.in_ok-owners.ensures.len

pub loop-group-preserved : goal.loop-group-preserved
loop-group-preserved c =
    let i = component_of (plain_design c.args.design.now) c.args.number in
    let before = c.loop-group.groups.items in
    let found = c.in_ok-found.found in
    let items = c.in_ok-push.ensures.items in
    record {
      walk = c.in_ok-found.ensures.walk;
      more = c.in_ok-found.ensures.more;
      count = ap length items ∙ length-append before (found ∷ []) ∙ ap (λ k. k + 1) c.loop-group.invariant.count;
      value = more_circles i before c.push.new.self.items found c.loop-group.group c.loop-group.invariant.count items c.loop-group.invariant.value c.in_ok-found.ensures.value;
    }
