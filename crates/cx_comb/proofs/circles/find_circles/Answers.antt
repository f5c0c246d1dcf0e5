use Rattle.std.proofs.Common.{rules, true≢false, ◌≡◌, ◌<◌, length, sym, ap, ◌∙◌, subst}
use Rattle.std.specs.Prelude.{◌↔◌, IsTrue}
use Rattle.std.proofs.lemmas.List.{length-map, length-replicate}
use Rattle.cx_graphs.specs.Graphs.{IsGraph, edges_of, targets_of}
use Rattle.cx_graphs.specs.Ways.{HasCircle}
use Rattle.cx_meaning.specs.Active.{nothing}
use Rattle.cx_meaning.specs.Designs.{PlainComponent}
use Rattle.cx_meaning.specs.Instances.{part_of}
use Rattle.cx_rules.specs.Footprints.{Leads}
use Rattle.cx_rules.specs.Ports.{component_of}
use Rattle.cx_rules.specs.RaceRule.{HasCycle}
use Rattle.cx_design.specs.PlainDesigns.{plain_design}
use Rattle.cx_design.specs.PlainForms.{plain_component, plain_group}
use Rattle.cx_design_leads.specs.Edges.{HasEdges}
use Rattle.cx_design_leads.proofs.NodeLemmas.{part_is}
use Rattle.cx_comb.proofs.CircleFacts.{all_circles, leads_graph}
use Rattle.cx_comb.proofs.CycleLemmas.{bare_cycles, bare_found}
use Rattle.cx_rules.proofs.PortsLemmas.{part_is as component_part}
use Rattle.cx_comb.proofs.circles.find_circles.Goals as goal

pub has_circle-requires : goal.has_circle-requires
has_circle-requires c =
    let i = component_of (plain_design c.args.design.now) c.args.number in
    record { graph = subst (λ l. IsGraph (edges_of l)) (sym c.as_slice.ensures.value) (leads_graph i (Leads i nothing) (edges_of c.in_ok-graph.graph.items) c.in_ok-graph.ensures.value) }

pub returns-then-branch : goal.returns-then-branch
returns-then-branch c =
    let design = c.args.design.now in
    let d = plain_design design in
    let k = c.args.number in
    let i = component_of d k in
    let graph = edges_of c.in_ok-graph.graph.items in
    let found = c.in_ok-has_circle.field-0 in
    let flags = c.in_ok-all.all.items in
    let part = c.component.result.now in
    let within : k < length d.components = subst (λ n. k < n) (sym (length-map design.components.items plain_component)) c.requires.within in
    let is : IsTrue found ↔ HasCircle (targets_of graph) = subst (λ l. IsTrue found ↔ HasCircle (targets_of (edges_of l))) c.as_slice.ensures.value c.in_ok-has_circle.ensures.value in
    let lens : c.len.result ≡ length part.groups.items = search rules in
    let long : length flags ≡ length (part_of i).groups =
    ap length c.in_ok-all.ensures.value ∙ length-replicate c.len.result _ ∙ lens ∙ sym (length-map part.groups.items plain_group)
    ∙ ap (λ (p : PlainComponent). length p.groups) (part_is design.components.items design.main k part c.component.ensures.value) in
    record {
      value = all_circles i flags c.len.result c.in_ok-all.ensures.value long ((bare_found d k design.keeps within graph c.in_ok-graph.ensures.value found is).0 c.if-branch.true)
          (λ g. bare_cycles i g graph c.in_ok-graph.ensures.value (is.0 c.if-branch.true));
    }

pub circular_groups-requires : goal.circular_groups-requires
circular_groups-requires c =
    let i = component_of (plain_design c.args.design.now) c.args.number in
    let found = c.in_ok-has_circle.field-0 in
    let is : IsTrue found ↔ HasCircle (targets_of (edges_of c.in_ok-graph.graph.items)) = subst (λ l. IsTrue found ↔ HasCircle (targets_of (edges_of l))) c.as_slice.ensures.value c.in_ok-has_circle.ensures.value in
    record {
      within = c.requires.within;
      nodes = c.in_ok-nodes.ensures.value;
      graph = subst (λ l. HasEdges i (Leads i nothing) (edges_of l)) (sym c.as_slice-2.ensures.value) c.in_ok-graph.ensures.value;
      no_circle = λ circle. true≢false (sym (is.1 (subst (λ l. HasCircle (targets_of (edges_of l))) c.as_slice-2.ensures.value circle)) ∙ c.if-branch.false);
    }

pub returns : goal.returns
returns c =
    let design = c.args.design.now in
    let d = plain_design design in
    let k = c.args.number in
    let i = component_of d k in
    let graph = edges_of c.in_ok-graph.graph.items in
    let found = c.in_ok-has_circle.field-0 in
    let within : k < length d.components = subst (λ n. k < n) (sym (length-map design.components.items plain_component)) c.requires.within in
    let is : IsTrue found ↔ HasCircle (targets_of graph) = subst (λ l. IsTrue found ↔ HasCircle (targets_of (edges_of l))) c.as_slice.ensures.value c.in_ok-has_circle.ensures.value in
    record {
      value = record {
        bare = subst (λ b. IsTrue b ↔ HasCycle i nothing) c.if-branch.false (bare_found d k design.keeps within graph c.in_ok-graph.ensures.value found is);
        count = c.in_ok-groups.ensures.count ∙ ap (λ (p : PlainComponent). length p.groups) (sym (component_part d k));
        grouped = c.in_ok-groups.ensures.value;
      };
    }
