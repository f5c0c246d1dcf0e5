use Rattle.std.proofs.Common.{◌≡◌, ◌++◌, map, drop}
use Rattle.cx_vtree.specs.PlainParts.{plain_decl}
use Rattle.cx_vnets.specs.CodeLaws.{declared_widths}
use Rattle.cx_bits.specs.BitVector.{zero_of}
use Rattle.cx_velab.proofs.zeros.push_decls.Given as goal

abbrev pub invariant-loop-decl : goal.invariant-loop-decl
invariant-loop-decl l =
    l.nets.items ++ map zero_of (declared_widths (map plain_decl (drop l.decl-index l.decls))) ≡ l.fn.nets.items ++ map zero_of (declared_widths (map plain_decl l.decls))
