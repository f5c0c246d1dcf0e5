-- Which active sets of a component have a circle.
use Rattle.std.specs.Prelude.{◌≡◌, ◌↔◌, ℕ, Bool, List, Some, IsTrue, length, slice_get}
use Rattle.cx_meaning.specs.Instances.{Instance, part_of}
use Rattle.cx_meaning.specs.Active.{nothing, group}
use Rattle.cx_rules.specs.RaceRule.{HasCycle}

-- the continuous assignments have one with each of the groups
abbrev pub AreGroupCircles : Instance → List Bool → Type 0
AreGroupCircles i groups =
    (g : ℕ) (found : Bool) → slice_get groups g ≡ Some found → IsTrue found ↔ HasCycle i (group g)

-- the continuous assignments have one, and they have one with each of the groups
pub record AreCircles (i : Instance) (whole : Bool) (groups : List Bool) : Type 0 where
  pub bare : IsTrue whole ↔ HasCycle i nothing
  pub count : length groups ≡ length (part_of i).groups
  pub grouped : AreGroupCircles i groups
