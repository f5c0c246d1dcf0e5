use Rattle.std.proofs.Common.{◌<◌, List, length}
use Rattle.cx_meaning.specs.Designs.{PlainDesign}
use Rattle.cx_state.specs.declared.tables.InstanceRow.{InstanceRow}
use Rattle.cx_eval_network.specs.Nodes.{IsNodesOf}
use Rattle.cx_eval.specs.Firsts.{AreFirsts}
use Rattle.cx_eval.proofs.firsts.first_nodes.Given as goal

-- the cells so far
abbrev pub invariant-loop-cell : goal.invariant-loop-cell
invariant-loop-cell l = (d : PlainDesign) (rows : List InstanceRow) → IsNodesOf d rows l.nodes → l.instance < length rows → AreFirsts d rows l.instance l.cell l.firsts.items
