use Rattle.std.proofs.Common.{◌≡◌, drop}
use Rattle.cx_print.specs.Pieces.{add_attributes}
use Rattle.cx_print.proofs.headers.attributes.Given as goal

abbrev pub invariant-loop-item : goal.invariant-loop-item
invariant-loop-item l = add_attributes l.gap (drop l.item-index l.attributes) l.out.items ≡ add_attributes l.initial.gap l.attributes l.initial.out.items
