use Rattle.std.proofs.Common.{◌≡◌, drop, map}
use Rattle.cx_design.specs.PlainForms.{plain_component}
use Rattle.cx_flattening.specs.Runnable.{any_static}
use Rattle.cx_flat.proofs.running.some_static.Given as goal

-- none so far is static
abbrev pub invariant-loop-component : goal.invariant-loop-component
invariant-loop-component l = any_static (map plain_component (drop l.component-index l.components)) ≡ any_static (map plain_component l.components)
