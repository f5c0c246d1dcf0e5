use Rattle.cx_graphs.specs.Graphs.{edges_of}
use Rattle.cx_graphs.specs.Additions.{Adds}
use Rattle.cx_rules.specs.Ports.{component_of}
use Rattle.cx_design.specs.PlainDesigns.{plain_design}
use Rattle.cx_design_leads.specs.Links.{OfCells}
use Rattle.cx_design_leads.proofs.rows.add_cells.Given as goal

-- the cells so far
abbrev pub invariant-loop-cell : goal.invariant-loop-cell
invariant-loop-cell l = Adds (edges_of l.initial.graph.items) (OfCells (component_of (plain_design l.design) l.number) l.cell) (edges_of l.graph.items)
