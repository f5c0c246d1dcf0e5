-- The offset that guards look at.
use Rattle.std.specs.Prelude.{ℕ, Option, Some, None}
use Rattle.cx_net.specs.Nets.{PlainNetExpr, OfWire}
use Rattle.cx_wiring.specs.Parts.{word}

-- a wire, or 0
abbrev pub offset_of : Option ℕ → PlainNetExpr
offset_of None = word 0
offset_of (Some wire) = OfWire wire
