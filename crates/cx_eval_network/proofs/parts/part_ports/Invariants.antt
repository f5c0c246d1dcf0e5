use Rattle.cx_meaning.specs.Instances.{cells_of}
use Rattle.cx_rules.specs.Ports.{component_of}
use Rattle.cx_design.specs.PlainDesigns.{plain_design}
use Rattle.cx_design_leads.specs.Nodes.{ports_before}
use Rattle.cx_eval_network.specs.Parts.{ArePorts}
use Rattle.cx_eval_network.proofs.parts.part_ports.Given as goal

-- the ports of the cells so far
abbrev pub invariant-loop-cell : goal.invariant-loop-cell
invariant-loop-cell l = let i = component_of (plain_design l.design) l.number in ArePorts i (ports_before (cells_of i) l.cell) l.ports.items
