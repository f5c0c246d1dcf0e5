use Rattle.std.proofs.Common.{◌≡◌, map, take}
use Rattle.cx_interp.specs.Counts.{plain_counts}
use Rattle.cx_profile.specs.declared.entries.ProfiledGroup.{ProfiledGroup}
use Rattle.cx_flat.specs.Places.{plain_instances}
use Rattle.cx_driver.specs.Placing.{standing_at, total_in}
use Rattle.cx_driver.proofs.totals.totals.Given as goal

-- those so far have their counts
abbrev pub invariant-loop-group : goal.invariant-loop-group
invariant-loop-group l =
    l.all.items ≡ map (λ (g : ProfiledGroup). total_in l.table.rows.items l.table.children.items (plain_counts l.counts) (standing_at (plain_instances l.places) g.instance g.group)) (take l.group-index l.groups)
