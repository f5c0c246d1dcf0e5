use Rattle.std.proofs.Common.{◌≡◌, ◌++◌, drop, map}
use Rattle.cx_design.specs.PlainForms.{plain_component}
use Rattle.cx_static.specs.Lowering.{lowered_component}
use Rattle.cx_static.specs.PlainLowered.{plain_lowered}
use Rattle.cx_static.proofs.components.lower_components.Given as goal

-- the components so far, and those that are left, are all
abbrev pub invariant-loop-part : goal.invariant-loop-part
invariant-loop-part l =
    map plain_lowered l.all.items ++ map lowered_component (map plain_component (drop l.part-index l.parts))
    ≡ map lowered_component (map plain_component l.parts)
