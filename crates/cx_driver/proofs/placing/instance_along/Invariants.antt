use Rattle.std.proofs.Common.{◌≡◌, drop}
use Rattle.cx_driver.specs.Placing.{number_along}
use Rattle.cx_driver.proofs.placing.instance_along.Given as goal

-- the cells that are left lead on from the instance so far
abbrev pub invariant-loop-cell : goal.invariant-loop-cell
invariant-loop-cell l = number_along l.table.rows.items l.table.children.items l.instance (drop l.cell-index l.path) ≡ number_along l.table.rows.items l.table.children.items 0 l.path
