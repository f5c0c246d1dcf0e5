use Rattle.std.proofs.Common.{◌≡◌, ◌++◌, drop, map}
use Rattle.cx_design.specs.PlainForms.{plain_group}
use Rattle.cx_flattening.specs.Copies.{copied_group, enabled_groups}
use Rattle.cx_flat.specs.Maps.{map_by}
use Rattle.cx_flat.proofs.groups.with_enabled_copies.Given as goal

-- the groups so far, and copies of those that are left and enabled, are all
abbrev pub invariant-loop-group : goal.invariant-loop-group
invariant-loop-group l =
    map plain_group l.all.items ++ map (copied_group (map_by l.moves)) (enabled_groups l.used l.number (map plain_group (drop l.group-index l.groups)))
    ≡ map plain_group l.fn.front.items ++ map (copied_group (map_by l.moves)) (enabled_groups l.used 0 (map plain_group l.groups))
