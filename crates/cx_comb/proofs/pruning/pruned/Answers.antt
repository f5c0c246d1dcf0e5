use Rattle.std.proofs.Common.{◌≡◌, length, sym, ap, ◌∙◌, subst}
use Rattle.std.proofs.lemmas.List.{length-map}
use Rattle.cx_graphs.specs.Graphs.{Bounded, IsGraph, edges_of}
use Rattle.cx_graphs.specs.Ways.{IsTurned}
use Rattle.cx_meaning.specs.Active.{nothing}
use Rattle.cx_rules.specs.Footprints.{Leads}
use Rattle.cx_rules.specs.Ports.{component_of}
use Rattle.cx_design.specs.PlainDesigns.{plain_design}
use Rattle.cx_design_leads.specs.Nodes.{node_count}
use Rattle.cx_comb.specs.Pruning.{IsKept}
use Rattle.cx_comb.proofs.CircleFacts.{leads_graph}
use Rattle.cx_comb.proofs.MarkFacts.{are_pruned}
use Rattle.cx_graphs.proofs.GraphsLemmas.{turned_graph}
use Rattle.cx_comb.proofs.pruning.pruned.Goals as goal

pub turned-requires : goal.turned-requires
turned-requires c =
    let i = component_of (plain_design c.args.design.now) c.args.number in record { graph = leads_graph i (Leads i nothing) (edges_of c.args.graph.now) c.requires.graph }

pub reached-requires : goal.reached-requires
reached-requires c =
    let i = component_of (plain_design c.args.design.now) c.args.number in
    let g = edges_of c.args.graph.now in
    let turned = edges_of c.in_ok-turned.turned.items in
    let long : length c.as_slice.result.now ≡ node_count i =
    sym (length-map c.as_slice.result.now (λ v. v.items)) ∙ ap (λ l. length (edges_of l)) c.as_slice.ensures.value ∙ c.in_ok-turned.ensures.value.0 ∙ c.requires.graph.same_length in
    record {
      graph = subst (λ l. IsGraph (edges_of l)) (sym c.as_slice.ensures.value) (turned_graph g turned c.in_ok-turned.ensures.value);
      starts = subst (λ n. Bounded n c.as_slice-2.result.now) (sym long) (subst (Bounded (node_count i)) (sym c.as_slice-2.ensures.value) c.in_ok-targets.ensures.value.within);
    }

pub kept-requires : goal.kept-requires
kept-requires c =
    let i = component_of (plain_design c.args.design.now) c.args.number in
    let long : length c.as_slice.result.now ≡ length c.args.graph.now =
    sym (length-map c.as_slice.result.now (λ v. v.items)) ∙ ap (λ l. length (edges_of l)) c.as_slice.ensures.value ∙ c.in_ok-turned.ensures.value.0 ∙ length-map c.args.graph.now (λ v. v.items) in
    record {
      graph = leads_graph i (Leads i nothing) (edges_of c.args.graph.now) c.requires.graph;
      marks = ap length c.as_slice-3.ensures.value ∙ c.in_ok-marks.ensures.len ∙ long;
    }

pub returns : goal.returns
returns c =
    let i = component_of (plain_design c.args.design.now) c.args.number in
    let g = edges_of c.args.graph.now in
    let marks = c.in_ok-marks.marks.items in
    let kept = edges_of c.in_ok-pruned.pruned.items in
    record {
      value = (
        marks,
        are_pruned (plain_design c.args.design.now) c.args.number g (edges_of c.as_slice.result.now) kept marks c.in_ok-targets.targets.items c.as_slice-2.result.now
            (subst (λ l. IsKept g l kept) c.as_slice-3.ensures.value c.in_ok-pruned.ensures.value)
            c.in_ok-targets.ensures.value c.as_slice-2.ensures.value (subst (λ l. IsTurned g (edges_of l)) (sym c.as_slice.ensures.value) c.in_ok-turned.ensures.value) c.in_ok-marks.ensures.sound c.in_ok-marks.ensures.all,
      );
    }
