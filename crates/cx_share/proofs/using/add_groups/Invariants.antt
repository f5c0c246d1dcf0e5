use Rattle.std.proofs.Common.{take}
use Rattle.cx_design.specs.PlainForms.{plain_component}
use Rattle.cx_sharing.specs.Uses.{group_uses}
use Rattle.cx_share.specs.Marks.{Adds, any_of}
use Rattle.cx_share.proofs.using.add_groups.Given as goal

-- what the groups so far use is added
abbrev pub invariant-loop-group : goal.invariant-loop-group
invariant-loop-group l = Adds l.initial.marks l.marks (any_of (group_uses (plain_component l.part)) (take l.group-index l.groups))
