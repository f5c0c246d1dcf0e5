-- What gives each net its value, and how wide both are.
use Rattle.std.specs.Prelude.{◌≡◌, ℕ, List, Some, slice_get}
use Rattle.cx_vtree.specs.InstanceTree.{Placed, nets_at, Origin, Outside, Tied, Held, Given}
use Rattle.cx_vtree.specs.Sound.{width_of}
use Rattle.cx_vlaws.specs.Widths.{scope_at, IsExpression}

-- a net of this name is there in the instance
abbrev pub IsNet : List Placed → ℕ → List ℕ → Type 0
IsNet tree i name = (k : ℕ) × (slice_get (nets_at tree i) k ≡ Some name)

-- the width of a net, or of a word of an array
abbrev pub width_at : List Placed → ℕ → List ℕ → ℕ
width_at tree i name = width_of (scope_at tree i name)

-- what gives a net of this width its value is there, and has the same width
abbrev pub IsThere : List Placed → ℕ → ℕ → Origin → Type 0
IsThere tree i w Outside = i ≡ 0
IsThere tree i w (Tied j net) = IsNet tree j net × (width_at tree j net ≡ w)
IsThere tree i w (Held v) = v ≡ w
IsThere tree i w (Given e) = IsExpression (scope_at tree i) e w
