use Rattle.std.proofs.Common.{◌∙◌, ◌<◌, ◌↔◌, IsTrue, length, true≢false, sym, ap, subst, arith}
use Rattle.std.proofs.lemmas.List.{length-map}
use Rattle.cx_graphs.specs.Graphs.{IsGraph, edges_of}
use Rattle.cx_graphs.specs.Ways.{LeadsWithin}
use Rattle.cx_graphs.specs.Reach.{IsUnmarked, Reaches}
use Rattle.cx_meaning.specs.Active.{nothing}
use Rattle.cx_rules.specs.Footprints.{Leads}
use Rattle.cx_rules.specs.Ports.{component_of}
use Rattle.cx_design.specs.PlainForms.{plain_component}
use Rattle.cx_design.specs.PlainDesigns.{plain_design}
use Rattle.cx_design_leads.specs.Edges.{LeadsInGroup}
use Rattle.cx_callees.specs.Callees.{plain_callee}
use Rattle.cx_shape_calls.proofs.DependLemmas.{found_is, dependent_input, graph_bounded, more_bounded, node_bounded}
use Rattle.cx_shape_calls.proofs.inputs.Paths.is_dependent.Goals as goal

pub returns-in_default : goal.returns-in_default
returns-in_default c =
    let i = component_of (plain_design c.args.design.now) c.args.number in
    record {
      paths = λ g h. h;
      value = λ g h. (λ e. absurd (true≢false (sym e)), λ r. let x = dependent_input i g c.args.port r in absurd (c.in_default.ensures.none x.0 x.1));
    }

pub leads_between-requires-clause-unmarked : goal.leads_between-requires-clause-unmarked
leads_between-requires-clause-unmarked c =
    let paths = c.requires.paths.1 in
    subst (λ n. IsUnmarked n c.args.self.now.reach) (sym (ap length c.as_slice-graph.ensures.value ∙ sym (length-map c.args.self.now.graph.items _) ∙ paths.graph.same_length)) paths.unmarked

pub leads_between-requires-clause-graph : goal.leads_between-requires-clause-graph
leads_between-requires-clause-graph c =
    let i = component_of (plain_design c.args.design.now) c.args.number in
    subst (λ l. IsGraph (edges_of l)) (sym c.as_slice-graph.ensures.value) (graph_bounded i (Leads i nothing) (edges_of c.args.self.now.graph.items) c.requires.paths.1.graph)

pub leads_between-requires-clause-more : goal.leads_between-requires-clause-more
leads_between-requires-clause-more c =
    let i = component_of (plain_design c.args.design.now) c.args.number in
    let paths = c.requires.paths.1 in
    subst (λ l. LeadsWithin (length c.as_slice-graph.result.now) (edges_of l)) (sym c.as_slice-more.ensures.value)
    (more_bounded i (LeadsInGroup i c.requires.paths.0) (edges_of c.args.self.now.leads.edges.items) (length c.as_slice-graph.result.now)
    (ap length c.as_slice-graph.ensures.value ∙ sym (length-map c.args.self.now.graph.items _) ∙ paths.graph.same_length) paths.leads.edges)

pub leads_between-requires-clause-start : goal.leads_between-requires-clause-start
leads_between-requires-clause-start c =
    let i = component_of (plain_design c.args.design.now) c.args.number in
    let paths = c.requires.paths.1 in
    node_bounded i c.args.port c.in-Some-node.start (length c.as_slice-graph.result.now)
    (ap length c.as_slice-graph.ensures.value ∙ sym (length-map c.args.self.now.graph.items _) ∙ paths.graph.same_length) (sym (c.in-Some-node.ensures.value i paths.nodes))

pub returns : goal.returns
returns c =
    let d = plain_design c.args.design.now in
    let k = c.args.number in
    let i = component_of d k in
    let within : k < length d.components = omega (arith, c.requires.within, length-map c.args.design.now.components.items plain_component) in
    record {
      paths = λ g h. record {
        nodes = h.nodes;
        graph = h.graph;
        leads = h.leads;
        unmarked = subst (λ n. IsUnmarked n c.leads_between.new.self) (ap length c.as_slice-graph.ensures.value ∙ sym (length-map c.args.self.now.graph.items _) ∙ h.graph.same_length) c.in_ok-found.ensures.unmarked;
      };
      value = λ g h.
          let graph = edges_of c.args.self.now.graph.items in
          let more = edges_of c.args.self.now.leads.edges.items in
          let start = c.in-Some-node.start in
          let first = c.in-Some-node-2.first in
          let last = c.in-Some-node-3.last in
          let key = plain_callee c.in-Some.callee in
          let reach : IsTrue c.in_ok-found.found ↔ Reaches graph more start first last =
          subst (λ l. IsTrue c.in_ok-found.found ↔ Reaches graph (edges_of l) start first last) c.as_slice-more.ensures.value
          (subst (λ l. IsTrue c.in_ok-found.found ↔ Reaches (edges_of l) (edges_of c.as_slice-more.result.now) start first last) c.as_slice-graph.ensures.value c.in_ok-found.ensures.value) in
          found_is d k g graph more h.graph h.leads.edges c.args.design.now.keeps within c.args.port key c.in-Some.ensures.some start first last _ c.in_ok-done.done
          (sym (c.in-Some-node.ensures.value i h.nodes)) (omega arith) c.in_ok-done.ensures.value (sym (c.in-Some-node-2.ensures.value i h.nodes)) (sym (c.in-Some-node-3.ensures.value i h.nodes)) c.in_ok-found.found reach;
    }
