use Rattle.std.proofs.Common.{◌≡◌, ℕ, ◌<◌, length}
use Rattle.cx_graphs.specs.Graphs.{edges_of}
use Rattle.cx_vnets.specs.Carriers.{origin_at}
use Rattle.cx_vnets.specs.Readers.{IsFound}
use Rattle.cx_vnets.proofs.readers.readers_of.Given as goal

abbrev pub invariant-loop-net : goal.invariant-loop-net
invariant-loop-net l = record {
  long : length (edges_of l.of_nets.items) ≡ length l.nets.drivers.items;
  watches : length (edges_of l.watches.rows.items) ≡ length l.nets.drivers.items;
  notes : length l.watches.compared.items ≡ length l.nets.drivers.items;
  found : (f : ℕ) → f < l.net → origin_at l.carriers.origins.items f ≡ f
      → IsFound l.nets l.carriers.origins.items (edges_of l.of_nets.items) (edges_of l.of_arrays.items) l.watches (length l.nets.drivers.items) f;
}
