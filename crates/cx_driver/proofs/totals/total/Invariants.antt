use Rattle.std.proofs.Common.{◌≡◌, take}
use Rattle.cx_interp.specs.Counts.{plain_counts}
use Rattle.cx_flat.specs.Placing.{plain_places}
use Rattle.cx_driver.specs.Placing.{total_in}
use Rattle.cx_driver.proofs.totals.total.Given as goal

-- what is counted of those so far
abbrev pub invariant-loop-place : goal.invariant-loop-place
invariant-loop-place l = l.total ≡ total_in l.table.rows.items l.table.children.items (plain_counts l.counts) (plain_places (take l.place-index l.places))
