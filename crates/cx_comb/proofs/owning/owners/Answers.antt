use Rattle.std.proofs.Common.{◌≡◌, ◌∙◌, [], length, sym, subst}
use Rattle.std.proofs.lemmas.List.{length-map}
use Rattle.cx_graphs.specs.Graphs.{Bounded, edges_of, targets_of}
use Rattle.cx_graphs.specs.Ways.{IsTurned}
use Rattle.cx_graphs.specs.Tallies.{IsClear, Reaches, Tallies, starts_of}
use Rattle.cx_graphs.proofs.GraphsLemmas.{turned_graph}
use Rattle.cx_meaning.specs.Designs.{PlainComponent}
use Rattle.cx_meaning.specs.Instances.{part_of}
use Rattle.cx_rules.specs.Ports.{component_of}
use Rattle.cx_rules.proofs.PortsLemmas.{part_is}
use Rattle.cx_design.specs.PlainDesigns.{plain_design}
use Rattle.cx_design_leads.specs.Nodes.{node_count}
use Rattle.cx_comb.specs.Owning.{AreTargetLists}
use Rattle.cx_comb.proofs.CircleFacts.{pruned_graph, pruned_length}
use Rattle.cx_comb.proofs.OwnerLemmas.{are_owners}
use Rattle.cx_comb.proofs.owning.owners.Goals as goal

pub turned-requires : goal.turned-requires
turned-requires c =
    let i = component_of (plain_design c.args.design.now) c.args.number in record { graph = pruned_graph i (edges_of c.args.pruned.now) c.requires.pruned }

pub tally_reached-requires : goal.tally_reached-requires
tally_reached-requires c =
    let i = component_of (plain_design c.args.design.now) c.args.number in
    let g = edges_of c.args.pruned.now in
    let graph = c.as_slice.result.now in
    let is : IsTurned g (edges_of graph) = subst (λ l. IsTurned g (edges_of l)) (sym c.as_slice.ensures.value) c.in_ok-turned.ensures.value in
    let same : length graph ≡ length c.args.pruned.now = sym (length-map graph (λ v. v.items)) ∙ is.0 ∙ length-map c.args.pruned.now (λ v. v.items) in
    let long : length graph ≡ node_count i = sym (length-map graph (λ v. v.items)) ∙ is.0 ∙ pruned_length i g c.requires.pruned in
    record {
      clear = subst (λ n. IsClear n c.in_ok-tally.tally.owners.items c.in_ok-tally.tally.touched.items) (sym same) c.in_ok-tally.ensures.clear;
      groups = c.in_ok-groups.ensures.clear;
      members = λ k m j. absurd j;
      groups_within = λ k m j. absurd j;
      within = λ k. subst (λ n. Bounded n (targets_of (edges_of c.as_slice-2.result.now) k)) (sym long)
          (subst (λ l. Bounded (node_count i) (targets_of (edges_of l) k)) (sym c.as_slice-2.ensures.value) (c.in_ok-lists.ensures.value.within k));
      graph = turned_graph g (edges_of graph) is;
    }

pub returns : goal.returns
returns c =
    let d = plain_design c.args.design.now in
    let i = component_of d c.args.number in
    let g = edges_of c.args.pruned.now in
    let graph = c.as_slice.result.now in
    let owners = c.tally_reached.new.self.owners.items in
    let touched = c.tally_reached.new.self.touched.items in
    let is : IsTurned g (edges_of graph) = subst (λ l. IsTurned g (edges_of l)) (sym c.as_slice.ensures.value) c.in_ok-turned.ensures.value in
    let long : length graph ≡ node_count i = sym (length-map graph (λ v. v.items)) ∙ is.0 ∙ pruned_length i g c.requires.pruned in
    let lists = edges_of c.in_ok-lists.lists.items in
    let are : AreTargetLists i (part_of i).groups lists = subst (λ (part : PlainComponent). AreTargetLists i part.groups lists) (sym (part_is d c.args.number)) c.in_ok-lists.ensures.value in
    let told : Tallies (Reaches (edges_of graph) (starts_of [] [] lists)) owners touched =
    subst (λ l. Tallies (Reaches (edges_of graph) (starts_of [] [] (edges_of l))) owners touched) c.as_slice-2.ensures.value c.in_ok-tally_reached.ensures.told in
    record { len = c.in_ok-tally_reached.ensures.len ∙ long; value = are_owners i g (edges_of graph) lists owners touched are is told }
