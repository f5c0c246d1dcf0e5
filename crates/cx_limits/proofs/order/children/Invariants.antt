use Rattle.std.proofs.Common.{◌≡◌, ◌++◌, drop, map}
use Rattle.cx_design.specs.PlainForms.{plain_cell}
use Rattle.cx_limits.specs.Order.{children_of}
use Rattle.cx_limits.proofs.order.children.Given as goal

-- those so far, and those of the cells that are left, are all
abbrev pub invariant-loop-cell : goal.invariant-loop-cell
invariant-loop-cell l = l.children.items ++ children_of (map plain_cell (drop l.cell-index l.cells)) ≡ children_of (map plain_cell l.cells)
