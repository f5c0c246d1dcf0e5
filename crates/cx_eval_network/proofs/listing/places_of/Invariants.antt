use Rattle.std.proofs.Common.{length}
use Rattle.cx_graphs.specs.Graphs.{Bounded}
use Rattle.cx_eval_network.proofs.listing.places_of.Given as goal

-- the places so far
abbrev pub invariant-loop-port : goal.invariant-loop-port
invariant-loop-port l = Bounded (length l.ports) l.places.items
