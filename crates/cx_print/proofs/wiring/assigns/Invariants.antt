use Rattle.std.proofs.Common.{◌≡◌, drop, map}
use Rattle.cx_ast.specs.PlainTree.{plain_assign}
use Rattle.cx_print.specs.Pieces.{add_assign, add_lines}
use Rattle.cx_print.proofs.wiring.assigns.Given as goal

abbrev pub invariant-loop-item : goal.invariant-loop-item
invariant-loop-item l = add_lines add_assign (map plain_assign (drop l.item-index l.items)) l.out.items ≡ add_lines add_assign (map plain_assign l.items) l.initial.out.items
