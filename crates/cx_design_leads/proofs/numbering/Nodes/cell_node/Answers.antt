use Rattle.std.proofs.Common.{◌≤◌, sym, ap, ◌∙◌, arith}
use Rattle.cx_meaning.specs.Instances.{cells_of, cell_count}
use Rattle.cx_rules.specs.Wellformed.{port_count}
use Rattle.cx_design_leads.specs.Nodes.{below, ports_before}
use Rattle.cx_design_leads.proofs.NodeLemmas.{beyond, below_none}
use Rattle.cx_design_leads.proofs.numbering.Nodes.cell_node.Goals as goal

pub returns-else-cell-len : goal.returns-else-cell-len
returns-else-cell-len c = record {
  value = λ i h.
      let past : cell_count (cells_of i) ≤ c.args.cell = let long = h.same_length in omega arith in
      let first = ports_before (cells_of i) c.args.cell in
      sym (ap (λ at. below (port_count at) first c.args.port) (beyond (cells_of i) c.args.cell past) ∙ below_none first c.args.port);
}
