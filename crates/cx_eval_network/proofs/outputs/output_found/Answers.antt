use Rattle.std.proofs.Common.{sym, ap, ◌∙◌}
use Rattle.cx_design_leads.specs.Nodes.{node_of}
use Rattle.cx_eval_network.specs.Askings.{asked_of}
use Rattle.cx_eval_network.specs.Nodes.{part_at}
use Rattle.cx_eval_network.proofs.outputs.output_found.Goals as goal

pub state_seen-requires-clause-found : goal.state_seen-requires-clause-found
state_seen-requires-clause-found c =
    let a = asked_of c.args.asking.now in
    let f = c.requires.found in
    record { number = c.args.found.number; from = f.from; within = f.within; at = ap (node_of (part_at a.design a.rows c.args.found.instance)) (sym c.in-Cell.is) ∙ f.number }
