use Rattle.cx_vnets.proofs.EdgeLemmas.{edge_same}
use Rattle.cx_vnets.proofs.flat_laws.edges_are_same.Goals as goal

pub returns : goal.returns
returns c tree m table values s after sets stores memory apart edges set stored widths sets_fit stores_fit is =
    edge_same tree m table values s after sets stores memory apart edges set stored c.codes_have_widths.ensures widths sets_fit stores_fit is
