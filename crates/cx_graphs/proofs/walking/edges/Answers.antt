use Rattle.std.proofs.Common.{sym, ◌∙◌, arith}
use Rattle.cx_graphs.proofs.Members.{targets_are}
use Rattle.cx_graphs.proofs.WalkLemmas.{targets_gone}
use Rattle.cx_graphs.proofs.walking.edges.Goals as goal

pub returns-then-node-graph : goal.returns-then-node-graph
returns-then-node-graph c = record { value = c.as_slice.ensures.value ∙ sym (targets_are c.args.graph.now c.args.node c.index-graph-node.result (omega arith) c.index-graph-node.is) }

pub returns-else-node-graph : goal.returns-else-node-graph
returns-else-node-graph c = record { value = targets_gone c.args.graph.now c.args.node (omega arith) }
