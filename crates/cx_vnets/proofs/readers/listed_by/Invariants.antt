use Rattle.std.proofs.Common.{◌≡◌, ℕ, ◌<◌, Some, slice_get}
use Rattle.cx_graphs.specs.Graphs.{edges_of}
use Rattle.cx_vnets.specs.Readers.{IsListed}
use Rattle.cx_vnets.proofs.readers.listed_by.Given as goal

abbrev pub invariant-loop-net : goal.invariant-loop-net
invariant-loop-net l = (f other : ℕ) → f < l.net → slice_get l.table f ≡ Some (Some other) → IsListed (edges_of l.rows.items) f other
