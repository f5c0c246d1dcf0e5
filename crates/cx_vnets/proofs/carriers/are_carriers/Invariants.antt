use Rattle.std.proofs.Common.{ℕ, ◌<◌}
use Rattle.cx_graphs.specs.Graphs.{edges_of, targets_of}
use Rattle.cx_vnets.specs.Carriers.{HasOrigin, IsRowOf}
use Rattle.cx_vnets.proofs.carriers.are_carriers.Given as goal

abbrev pub invariant-loop-net : goal.invariant-loop-net
invariant-loop-net l = record {
  origins : (f : ℕ) → f < l.net → HasOrigin l.nets l.ranks l.carriers.origins.items f;
  rows : (f : ℕ) → f < l.net → IsRowOf l.carriers.origins.items (targets_of (edges_of l.carriers.rows.items) f) f;
}
