use Rattle.std.proofs.Common.{◌≡◌, length}
use Rattle.cx_graphs.specs.Graphs.{edges_of}
use Rattle.cx_eval_network.proofs.ListingLemmas.{LeadsBelow}
use Rattle.cx_eval_network.proofs.listing.links.Given as goal

-- the ports so far
abbrev pub invariant-loop-number : goal.invariant-loop-number
invariant-loop-number l = record {
  sized : length l.graph.items ≡ l.number-index;
  below : LeadsBelow (length l.ports) (edges_of l.graph.items);
}
