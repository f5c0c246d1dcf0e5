use Rattle.std.proofs.Common.{◌+◌, length, sym, ap, ◌∙◌}
use Rattle.cx_meaning.specs.Instances.{part_of}
use Rattle.cx_design_leads.specs.Nodes.{below, node_of}
use Rattle.cx_design_leads.proofs.numbering.Nodes.node.Goals as goal

pub returns-in-Input : goal.returns-in-Input
returns-in-Input c = record {
  value = λ i h. let count = length (part_of i).inputs in
      c.between.ensures.value count (h.outputs ∙ ap (λ k. k + count) (sym h.inputs)) ∙ ap (λ k. below count k c.in-Input.port) h.inputs ∙ ap (node_of i) (sym c.in-Input.is);
}

pub returns-in-Output : goal.returns-in-Output
returns-in-Output c = record {
  value = λ i h. let count = length (part_of i).outputs in
      c.between-in-Output.ensures.value count (h.dones ∙ ap (λ k. k + count) (sym h.outputs)) ∙ ap (λ k. below count k c.in-Output.port) h.outputs ∙ ap (node_of i) (sym c.in-Output.is);
}

pub returns-in-Done : goal.returns-in-Done
returns-in-Done c = record {
  value = λ i h. let count = length (part_of i).groups in
      c.between-in-Done.ensures.value count (h.count ∙ ap (λ k. k + count) (sym h.dones)) ∙ ap (λ k. below count k c.in-Done.group) h.dones ∙ ap (node_of i) (sym c.in-Done.is);
}
