use Rattle.std.proofs.Common.{◌≡◌, ◌++◌, drop, flat_map, map}
use Rattle.cx_design.specs.PlainForms.{plain_invoke}
use Rattle.cx_widths.specs.Binds.{plain_binds}
use Rattle.cx_widths.proofs.binds.binds.Given as goal

-- what is added so far, and the inputs of the invokes that are left, are all
abbrev pub invariant-loop-invoke : goal.invariant-loop-invoke
invariant-loop-invoke l =
    plain_binds l.list.items ++ flat_map (λ v. v.inputs) (map plain_invoke (drop l.invoke-index l.invokes)) ≡ flat_map (λ v. v.inputs) (map plain_invoke l.invokes)
