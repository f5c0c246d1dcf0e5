use Rattle.std.proofs.Common.{◌≡◌, drop, map}
use Rattle.cx_ast.specs.PlainTree.{plain_component}
use Rattle.cx_print.specs.Pieces.{add_component, add_from}
use Rattle.cx_print.proofs.files.components.Given as goal

abbrev pub invariant-loop-item : goal.invariant-loop-item
invariant-loop-item l = add_from add_component l.gap (map plain_component (drop l.item-index l.items)) l.out.items ≡ add_from add_component l.initial.gap (map plain_component l.items) l.initial.out.items
