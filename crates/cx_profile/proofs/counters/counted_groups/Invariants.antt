use Rattle.std.proofs.Common.{◌≡◌, ◌++◌, drop, length, map}
use Rattle.cx_design.specs.PlainForms.{plain_cell, plain_group}
use Rattle.cx_profile.specs.Renumbering.{renumber}
use Rattle.cx_profile.specs.Growing as growing
use Rattle.cx_profile.proofs.counters.counted_groups.Given as goal

-- the groups so far, and those of the groups that are left, are all
abbrev pub invariant-loop-group : goal.invariant-loop-group
invariant-loop-group l =
    map plain_group l.groups.items ++ growing.counted_groups (renumber l.dones) (map plain_cell l.part.cells.items) l.part.place l.register (map plain_group (drop l.group-index l.part.groups.items))
    ≡ growing.counted_groups (renumber l.dones) (map plain_cell l.part.cells.items) l.part.place (length l.part.cells.items) (map plain_group l.part.groups.items)
