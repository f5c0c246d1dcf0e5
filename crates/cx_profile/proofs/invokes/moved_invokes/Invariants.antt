use Rattle.std.proofs.Common.{◌≡◌, ◌++◌, drop, map}
use Rattle.cx_design.specs.PlainForms.{plain_invoke}
use Rattle.cx_profile.specs.Renumbering.{renumbered_invoke}
use Rattle.cx_profile.proofs.invokes.moved_invokes.Given as goal

-- the invokes so far, and those of the parts that are left, are all
abbrev pub invariant-loop-invoke : goal.invariant-loop-invoke
invariant-loop-invoke l =
    map plain_invoke l.copies.items ++ map (renumbered_invoke l.dones) (map plain_invoke (drop l.invoke-index l.invokes)) ≡ map (renumbered_invoke l.dones) (map plain_invoke l.invokes)
