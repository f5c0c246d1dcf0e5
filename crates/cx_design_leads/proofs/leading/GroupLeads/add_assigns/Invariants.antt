use Rattle.std.proofs.Common.{take}
use Rattle.cx_graphs.specs.Graphs.{edges_of}
use Rattle.cx_graphs.specs.Additions.{Adds}
use Rattle.cx_rules.specs.Ports.{component_of}
use Rattle.cx_design.specs.PlainForms.{plain_assigns}
use Rattle.cx_design.specs.PlainDesigns.{plain_design}
use Rattle.cx_design_leads.specs.Nodes.{node_count}
use Rattle.cx_design_leads.specs.Edges.{IsSpreadOf}
use Rattle.cx_design_leads.specs.Links.{OfAssigns}
use Rattle.cx_design_leads.proofs.leading.GroupLeads.add_assigns.Given as goal

-- the assignments so far
abbrev pub invariant-loop-assign : goal.invariant-loop-assign
invariant-loop-assign l = let i = component_of (plain_design l.design) l.number in record {
  spread : IsSpreadOf (node_count i) l.self;
  value : Adds (edges_of l.fn.self.edges.items) (OfAssigns i (plain_assigns (take l.assign-index l.assigns))) (edges_of l.self.edges.items);
}
