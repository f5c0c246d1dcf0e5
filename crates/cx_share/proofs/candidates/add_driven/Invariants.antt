use Rattle.std.proofs.Common.{take}
use Rattle.cx_meaning.specs.Control.{assigns_drive}
use Rattle.cx_design.specs.PlainForms.{plain_group}
use Rattle.cx_share.specs.Marks.{Adds, any_of}
use Rattle.cx_share.proofs.candidates.add_driven.Given as goal

-- the cells that the groups so far drive are added
abbrev pub invariant-loop-group : goal.invariant-loop-group
invariant-loop-group l = Adds l.initial.marks l.marks (any_of (λ g. assigns_drive (plain_group g).assigns) (take l.group-index l.groups))
