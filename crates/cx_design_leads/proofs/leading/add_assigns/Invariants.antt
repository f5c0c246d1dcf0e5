use Rattle.std.proofs.Common.{take}
use Rattle.cx_graphs.specs.Graphs.{edges_of}
use Rattle.cx_graphs.specs.Additions.{Adds}
use Rattle.cx_rules.specs.Ports.{component_of}
use Rattle.cx_design.specs.PlainForms.{plain_assigns}
use Rattle.cx_design.specs.PlainDesigns.{plain_design}
use Rattle.cx_design_leads.specs.Links.{OfAssigns}
use Rattle.cx_design_leads.proofs.leading.add_assigns.Given as goal

-- the assignments so far
abbrev pub invariant-loop-assign : goal.invariant-loop-assign
invariant-loop-assign l = Adds (edges_of l.initial.graph.items) (OfAssigns (component_of (plain_design l.design) l.number) (plain_assigns (take l.assign-index l.assigns))) (edges_of l.graph.items)
