use Rattle.cx_graphs.specs.Graphs.{edges_of}
use Rattle.cx_graphs.specs.Additions.{Adds}
use Rattle.cx_prim.specs.Table.{row_of}
use Rattle.cx_rules.specs.Ports.{component_of}
use Rattle.cx_design.specs.PlainDesigns.{plain_design}
use Rattle.cx_design_leads.specs.Links.{OfPorts}
use Rattle.cx_design_leads.proofs.rows.add_outputs.Given as goal

-- the ports so far
abbrev pub invariant-loop-port : goal.invariant-loop-port
invariant-loop-port l = Adds (edges_of l.initial.graph.items) (OfPorts (component_of (plain_design l.design) l.number) l.cell (row_of l.primitive) l.port) (edges_of l.graph.items)
