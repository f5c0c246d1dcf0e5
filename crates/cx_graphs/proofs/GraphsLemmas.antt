-- Facts of what `Graphs` defines, that several crates above take.
use Rattle.std.proofs.Common.{◌<◌, sym, subst}
use Rattle.cx_graphs.specs.Graphs.{Edges, IsGraph}
use Rattle.cx_graphs.specs.Ways.{IsTurned}
use Rattle.cx_graphs.proofs.WalkLemmas.{targets_within}

pub turned_graph : (g turned : Edges) → IsTurned g turned → IsGraph turned
turned_graph g turned t n m i = subst (λ k. m < k) (sym t.0) (targets_within g m n ((t.1 n m).0 i))
