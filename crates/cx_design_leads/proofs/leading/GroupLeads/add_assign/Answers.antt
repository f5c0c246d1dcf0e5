use Rattle.std.proofs.Common.{◌<◌, ap, length, sym, subst, ◌∙◌}
use Rattle.std.proofs.lemmas.List.{length-map}
use Rattle.cx_graphs.specs.Graphs.{edges_of}
use Rattle.cx_rules.specs.Ports.{component_of}
use Rattle.cx_design.specs.PlainDesigns.{plain_design}
use Rattle.cx_design.specs.PlainForms.{plain_assign}
use Rattle.cx_design_leads.specs.Nodes.{node_count}
use Rattle.cx_design_leads.proofs.NodeLemmas.{within}
use Rattle.cx_design_leads.proofs.EdgeLemmas.{driven_is, assign_added, no_assign_added, spread_more}
use Rattle.cx_design_leads.proofs.leading.GroupLeads.add_assign.Goals as goal

pub is_bare-is_new-requires : goal.is_bare-is_new-requires
is_bare-is_new-requires c =
    let i = component_of (plain_design c.args.design.now) c.args.number in
    record {
      there = subst (λ n. c.in-Some.from < n) (sym c.requires.spread.same_length ∙ length-map c.args.self.now.edges.items (λ v. v.items) ∙ sym (ap length c.deref.ensures.value))
          (within i c.args.assign.now.target c.in-Some.from (driven_is i c.args.assign.now.target c.in-Some.from (sym c.in-Some.ensures.value)).1);
    }

pub add_named-requires : goal.add_named-requires
add_named-requires c =
    let i = component_of (plain_design c.args.design.now) c.args.number in
    record {
      from = subst (λ n. c.in-Some.from < n) (sym c.requires.spread.same_length ∙ length-map c.args.self.now.edges.items (λ v. v.items))
          (within i c.args.assign.now.target c.in-Some.from (driven_is i c.args.assign.now.target c.in-Some.from (sym c.in-Some.ensures.value)).1);
    }

pub returns-in_ok-push-in-Some : goal.returns-in_ok-push-in-Some
returns-in_ok-push-in-Some c =
    let i = component_of (plain_design c.args.design.now) c.args.number in
    let a = plain_assign c.args.assign.now in
    let g = edges_of c.args.self.now.edges.items in
    let after = edges_of c.add_named.new.graph.items in
    let from = c.in-Some.from in
    let d = sym c.in-Some.ensures.value in
    let named = c.in_ok-add_named-in-Some.ensures.value i c.requires.nodes in
    record {
      spread = spread_more i (node_count i) g after c.args.self.now.targets.items c.push.new.self.items from a c.requires.spread (within i a.target from (driven_is i a.target from d).1) named c.in_ok-push-in-Some.ensures.items;
      value = assign_added i g after from a d named;
    }

pub returns-in-None-clause-value : goal.returns-in-None-clause-value
returns-in-None-clause-value c =
    let i = component_of (plain_design c.args.design.now) c.args.number in no_assign_added i (edges_of c.args.self.now.edges.items) (plain_assign c.args.assign.now) (sym c.in-None.ensures.value)
