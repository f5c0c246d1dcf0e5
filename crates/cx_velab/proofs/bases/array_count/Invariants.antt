use Rattle.std.proofs.Common.{◌≡◌, ◌+◌, ◌≤◌, length, map, drop}
use Rattle.cx_vtree.specs.PlainParts.{plain_decl}
use Rattle.cx_vtree.specs.InstanceTree.{declared_arrays}
use Rattle.cx_velab.proofs.bases.array_count.Given as goal

abbrev pub invariant-loop-decl : goal.invariant-loop-decl
invariant-loop-decl l = record {
  counted : l.count + length (declared_arrays (map plain_decl (drop l.decl-index l.decls))) ≡ length (declared_arrays (map plain_decl l.decls));
  small : l.count ≤ l.decl-index;
}
