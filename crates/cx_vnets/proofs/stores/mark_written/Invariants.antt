use Rattle.cx_graphs.specs.Graphs.{edges_of}
use Rattle.cx_vnets.specs.Stale.{Tells}
use Rattle.cx_vnets.specs.Written.{ReadsNoWritten}
use Rattle.cx_vnets.proofs.stores.mark_written.Given as goal

abbrev pub invariant-loop-number : goal.invariant-loop-number
invariant-loop-number l = Tells l.ranks l.fn.stale l.stale (ReadsNoWritten (edges_of l.of_arrays) l.stores l.writes l.number)
