use Rattle.cx_vtree.specs.PlainParts.{plain_edge}
use Rattle.cx_vwrite.proofs.LinesText.{edge_pieces}
use Rattle.cx_vwrite.proofs.modules.edge.Goals as goal

pub returns : goal.returns
returns c =
    edge_pieces (plain_edge c.args.e.now) _ _ _ _ _ _ _ _
    c.in_ok-edge_begin.ensures c.in_ok-sets.ensures c.in_ok-edge_else.ensures c.in_ok-items.ensures c.in_ok-edge_end.ensures (cc) (cc)
