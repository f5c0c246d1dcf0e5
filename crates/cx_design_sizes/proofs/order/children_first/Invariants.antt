use Rattle.std.proofs.Common.{◌-◌, ◌*◌, length}
use Rattle.cx_design.specs.PlainDesigns.{plain_design}
use Rattle.cx_design_sizes.proofs.OrderLemmas.{IsUnderWay}
use Rattle.cx_design_sizes.proofs.order.children_first.Given as goal

abbrev pub invariant-loop-step : goal.invariant-loop-step
invariant-loop-step l = IsUnderWay (plain_design l.design) l.placed.items l.order.items l.path.items

-- each turn puts one component more on the path, or takes one from it that is placed
abbrev pub decreases-loop-step : goal.decreases-loop-step
decreases-loop-step l = (2 * length l.components - 2 * length l.order.items) - length l.path.items
