use Rattle.std.proofs.Common.{◌≡◌, length, map, take}
use Rattle.cx_design.specs.PlainForms.{plain_group}
use Rattle.cx_sharing.specs.Uses.{assigns_use}
use Rattle.cx_share.specs.Marks.{marks_by}
use Rattle.cx_share.proofs.using.used_by_groups.Given as goal

-- the sets of the groups so far
abbrev pub invariant-loop-group : goal.invariant-loop-group
invariant-loop-group l = l.used.items ≡ map (λ g. marks_by (length l.part.cells.items) (assigns_use (plain_group g).assigns)) (take l.group-index l.part.groups.items)
