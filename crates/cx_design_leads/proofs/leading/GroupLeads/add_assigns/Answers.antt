use Rattle.std.proofs.Common.{rules, ◌+◌, ◌<◌, take, length, sym}
use Rattle.cx_graphs.specs.Graphs.{edges_of}
use Rattle.cx_rules.specs.Ports.{component_of}
use Rattle.cx_design.specs.PlainDesigns.{plain_design}
use Rattle.cx_design.specs.PlainForms.{plain_assign, plain_assigns}
use Rattle.cx_design_leads.proofs.EdgeLemmas.{no_assigns, more_assigns, map_take_more, take_more_map}
use Rattle.cx_design_leads.proofs.leading.GroupLeads.add_assigns.Goals as goal

pub loop-assign-init : goal.loop-assign-init
loop-assign-init c = record {
  spread = c.requires.spread;
  value = no_assigns (component_of (plain_design c.args.design.now) c.args.number) (edges_of c.args.self.now.edges.items);
}

pub loop-assign-preserved : goal.loop-assign-preserved
loop-assign-preserved c =
    let i = component_of (plain_design c.args.design.now) c.args.number in
    let xs = c.args.assigns.now in
    let k = c.loop-assign.assign-index in
    let x = c.assign-item.result in
    let here : k < length xs = search rules in
    record {
      spread = c.in_ok-add_assign.ensures.spread;
      value = more_assigns i (edges_of c.args.self.now.edges.items) (edges_of c.loop-assign.self.edges.items) (edges_of c.add_assign.new.self.edges.items)
          (plain_assigns (take k xs)) (plain_assigns (take (k + 1) xs)) (plain_assign x) (λ b. map_take_more plain_assign xs k x b here (sym c.assign-item.is)) (λ b. take_more_map plain_assign xs k x b here (sym c.assign-item.is))
          c.loop-assign.invariant.value c.in_ok-add_assign.ensures.value;
    }
