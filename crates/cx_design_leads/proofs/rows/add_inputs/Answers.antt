use Rattle.std.proofs.Common.{◌∙◌}
use Rattle.cx_graphs.specs.Graphs.{edges_of}
use Rattle.cx_design_leads.proofs.EdgeLemmas.{more_inputs}
use Rattle.cx_design_leads.proofs.rows.add_inputs.Goals as goal

pub loop-input-preserved : goal.loop-input-preserved
loop-input-preserved c = record {
  len = c.in_ok-add_port.ensures.len ∙ c.loop-input.invariant.len;
  value = λ i h. more_inputs i (edges_of c.args.graph.now.items) (edges_of c.loop-input.graph.items) (edges_of c.add_port.new.graph.items) c.args.from c.args.cell c.loop-input.input
      (c.loop-input.invariant.value i h) (c.in_ok-add_port.ensures.value i h);
}
