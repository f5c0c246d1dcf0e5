use Rattle.std.proofs.Common.{◌≡◌, ◌++◌, drop, map}
use Rattle.cx_ast.specs.PlainTree.{plain_wire}
use Rattle.cx_copies.specs.Naming.{named_wire}
use Rattle.cx_copies.proofs.wires.named_wires.Given as goal

-- those so far, and those of what is left, are all
abbrev pub invariant-loop-wire : goal.invariant-loop-wire
invariant-loop-wire g l = map plain_wire l.named.items ++ map (named_wire (g.N.CellNames.renaming l.names)) (map plain_wire (drop l.wire-index l.wires)) ≡ map (named_wire (g.N.CellNames.renaming l.names)) (map plain_wire l.wires)
