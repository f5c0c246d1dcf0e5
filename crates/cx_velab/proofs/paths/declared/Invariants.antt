use Rattle.std.proofs.Common.{◌≡◌, drop, map, slice_get}
use Rattle.cx_vtree.specs.InstanceTree.{declared_nets}
use Rattle.cx_vtree.specs.PlainParts.{plain_decl}
use Rattle.cx_velab.proofs.paths.declared.Given as goal

abbrev pub invariant-loop-decl : goal.invariant-loop-decl
invariant-loop-decl l = slice_get (declared_nets (map plain_decl l.decls)) l.number ≡ slice_get (declared_nets (map plain_decl (drop l.decl-index l.decls))) l.left
