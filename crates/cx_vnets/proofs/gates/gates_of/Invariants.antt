use Rattle.std.proofs.Common.{◌≡◌, length}
use Rattle.cx_vnets.specs.Gates.{GatesStand}
use Rattle.cx_vnets.proofs.gates.gates_of.Given as goal

abbrev pub invariant-loop-net : goal.invariant-loop-net
invariant-loop-net l = record {
  stand : GatesStand l.nets l.origins l.gates.items;
  long : length l.gates.items ≡ l.net;
}
