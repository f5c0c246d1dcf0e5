use Rattle.std.proofs.Common.{◌≡◌, drop, map}
use Rattle.cx_ast.specs.PlainTree.{plain_wire}
use Rattle.cx_print.specs.Pieces.{add_wire, add_lines}
use Rattle.cx_print.proofs.components.wires.Given as goal

abbrev pub invariant-loop-item : goal.invariant-loop-item
invariant-loop-item l = add_lines add_wire (map plain_wire (drop l.item-index l.items)) l.out.items ≡ add_lines add_wire (map plain_wire l.items) l.initial.out.items
