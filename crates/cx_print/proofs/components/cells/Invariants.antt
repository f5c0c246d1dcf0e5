use Rattle.std.proofs.Common.{◌≡◌, drop, map}
use Rattle.cx_ast.specs.PlainTree.{plain_cell}
use Rattle.cx_print.specs.Pieces.{add_cell, add_lines}
use Rattle.cx_print.proofs.components.cells.Given as goal

abbrev pub invariant-loop-item : goal.invariant-loop-item
invariant-loop-item l = add_lines add_cell (map plain_cell (drop l.item-index l.items)) l.out.items ≡ add_lines add_cell (map plain_cell l.items) l.initial.out.items
