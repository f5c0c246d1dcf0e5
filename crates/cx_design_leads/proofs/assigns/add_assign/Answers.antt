use Rattle.std.proofs.Common.{◌<◌, sym, subst}
use Rattle.cx_graphs.specs.Graphs.{edges_of}
use Rattle.cx_rules.specs.Ports.{component_of}
use Rattle.cx_design.specs.PlainDesigns.{plain_design}
use Rattle.cx_design.specs.PlainForms.{plain_assign}
use Rattle.cx_design_leads.proofs.NodeLemmas.{within}
use Rattle.cx_design_leads.proofs.EdgeLemmas.{driven_is, assign_added, no_assign_added}
use Rattle.cx_design_leads.proofs.assigns.add_assign.Goals as goal

pub add_named-requires : goal.add_named-requires
add_named-requires c =
    let i = component_of (plain_design c.args.design.now) c.args.number in
    record { from = subst (λ n. c.in-Some.from < n) (sym c.requires.graph) (within i c.args.assign.now.target c.in-Some.from (driven_is i c.args.assign.now.target c.in-Some.from (sym c.in-Some.ensures.value)).1) }

pub returns-in_ok-add_named-in-Some : goal.returns-in_ok-add_named-in-Some
returns-in_ok-add_named-in-Some c =
    let i = component_of (plain_design c.args.design.now) c.args.number in
    record {
      value = assign_added i (edges_of c.args.graph.now.items) (edges_of c.add_named.new.graph.items) c.in-Some.from (plain_assign c.args.assign.now) (sym c.in-Some.ensures.value)
          (c.in_ok-add_named-in-Some.ensures.value i c.requires.nodes);
    }

pub returns-in-None : goal.returns-in-None
returns-in-None c =
    let i = component_of (plain_design c.args.design.now) c.args.number in
    record { value = no_assign_added i (edges_of c.args.graph.now.items) (plain_assign c.args.assign.now) (sym c.in-None.ensures.value) }
