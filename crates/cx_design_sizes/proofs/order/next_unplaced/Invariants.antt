use Rattle.std.proofs.Common.{map}
use Rattle.cx_design.specs.PlainForms.{plain_cell}
use Rattle.cx_design_sizes.specs.Orders.{ArePlaced}
use Rattle.cx_design_sizes.proofs.order.next_unplaced.Given as goal

abbrev pub invariant-loop-number : goal.invariant-loop-number
invariant-loop-number l = ArePlaced l.placed (map plain_cell l.cells) l.from l.number
