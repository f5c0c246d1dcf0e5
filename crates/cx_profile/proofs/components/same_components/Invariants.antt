use Rattle.std.proofs.Common.{◌≡◌, ◌++◌, drop, map}
use Rattle.cx_design.specs.PlainForms.{plain_component}
use Rattle.cx_profile.proofs.components.same_components.Given as goal

-- the components so far, and those that are left, are all
abbrev pub invariant-loop-part : goal.invariant-loop-part
invariant-loop-part l = map plain_component l.all.items ++ map plain_component (drop l.part-index l.parts) ≡ map plain_component l.parts
