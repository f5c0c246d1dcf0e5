-- THE DESIGN THAT IS RUN: the flat design where a component is static, and else the design itself.
use Rattle.std.specs.Prelude.{Bool, true, false, ◌||◌, is_some, List, [], ◌∷◌, if◌then◌else◌}
use Rattle.cx_meaning.specs.Designs.{PlainInvoke, PlainComponent, PlainDesign}
use Rattle.cx_flattening.specs.FlatDesign.{flat_design}

abbrev pub has_invokes : List PlainInvoke → Bool
has_invokes [] = false
has_invokes (v ∷ vs) = true

-- a component that is static, or has a static invoke
abbrev pub is_static_part : PlainComponent → Bool
is_static_part part = is_some part.latency || has_invokes part.invokes

abbrev pub any_static : List PlainComponent → Bool
any_static [] = false
any_static (part ∷ parts) = is_static_part part || any_static parts

abbrev pub has_static : PlainDesign → Bool
has_static d = any_static d.components

abbrev pub runnable : PlainDesign → PlainDesign
runnable d = if has_static d then flat_design d else d
