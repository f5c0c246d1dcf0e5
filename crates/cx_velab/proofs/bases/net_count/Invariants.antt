use Rattle.std.proofs.Common.{◌≡◌, ◌+◌, ◌≤◌, length, map, drop}
use Rattle.cx_vtree.specs.InstanceTree.{declared_nets}
use Rattle.cx_vtree.specs.PlainParts.{plain_decl}
use Rattle.cx_velab.proofs.bases.net_count.Given as goal

abbrev pub invariant-loop-decl : goal.invariant-loop-decl
invariant-loop-decl l = record {
  counted : l.count + length (declared_nets (map plain_decl (drop l.decl-index l.decl-items))) ≡ length l.part.ports.items + length (declared_nets (map plain_decl l.decl-items));
  small : l.count ≤ length l.part.ports.items + l.decl-index;
}
