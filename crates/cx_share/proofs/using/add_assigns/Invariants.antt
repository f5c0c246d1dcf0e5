use Rattle.std.proofs.Common.{take}
use Rattle.cx_design.specs.PlainForms.{plain_assign}
use Rattle.cx_sharing.specs.Uses.{assign_uses}
use Rattle.cx_share.specs.Marks.{Adds, any_of}
use Rattle.cx_share.proofs.using.add_assigns.Given as goal

-- what the assignments so far use is added
abbrev pub invariant-loop-assign : goal.invariant-loop-assign
invariant-loop-assign l = Adds l.initial.marks l.marks (any_of (λ a. assign_uses (plain_assign a)) (take l.assign-index l.assigns))
