use Rattle.std.proofs.Common.{◌∙◌, subst}
use Rattle.cx_graphs.specs.Graphs.{edges_of}
use Rattle.cx_graphs.specs.Additions.{Adds}
use Rattle.cx_design.specs.PlainForms.{plain_assign}
use Rattle.cx_design_leads.specs.Links.{ToPorts}
use Rattle.cx_design_leads.proofs.EdgeLemmas.{named_added}
use Rattle.cx_design_leads.proofs.assigns.add_named.Goals as goal

pub returns : goal.returns
returns c = record {
  value = λ i h.
      let g = edges_of c.args.graph.now.items in
      let mid = edges_of c.add_ports.new.graph.items in
      named_added i g mid (edges_of c.add_port.new.graph.items) c.args.from (plain_assign c.args.assign.now)
      (subst (λ l. Adds g (ToPorts i c.args.from l) mid) (c.as_slice.ensures.value ∙ c.in_ok-operands.ensures.value) (c.in_ok-add_ports.ensures.value i h))
      (c.in_ok-add_port.ensures.value i h);
}
