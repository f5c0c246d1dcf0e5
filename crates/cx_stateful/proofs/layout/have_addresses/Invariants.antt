use Rattle.std.proofs.Common.{◌≡◌, drop}
use Rattle.cx_prim.specs.MemoryRows as rows
use Rattle.cx_stateful.proofs.layout.have_addresses.Given as goal

abbrev pub invariant-loop-port : goal.invariant-loop-port
invariant-loop-port l = rows.have_addresses (drop l.port l.sizes) l.port l.inputs ≡ rows.have_addresses l.sizes 0 l.inputs
