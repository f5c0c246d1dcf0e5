-- Breaks of rules as plain data, and the first of a list of them.
use Rattle.std.specs.Prelude.{ℕ, Bool, true, List, [], ◌∷◌, Option, Some, None, if◌then◌else◌}
use Rattle.cx_text.specs.declared.places.Place.{Place}
use Rattle.cx_text.specs.declared.rules.Rule.{Rule}
use Rattle.cx_rules.specs.Spots as spots
use Rattle.cx_rules.specs.Accepted.{key_of, comes_before}
use Rattle.cx_design_parts.specs.declared.breaks.Part.{Part}
use Rattle.cx_design_parts.specs.declared.breaks.Part.TheVariants as parts
use Rattle.cx_design_parts.specs.declared.breaks.Spot.{Spot}
use Rattle.cx_design_parts.specs.declared.breaks.Break.{Break}

-- a break of a rule: at which part, with what place and what name
pub record Broken : Type 0 where
  pub rule : Rule
  pub spot : spots.Spot
  pub place : Place
  pub name : List ℕ

abbrev pub plain_part : Part → spots.Part
plain_part (parts.Itself n) = spots.Itself n
plain_part (parts.Bind n) = spots.ABind n
plain_part (parts.Assign n) = spots.AnAssign n
plain_part (parts.Statement n) = spots.AStatement n
plain_part (parts.Group n) = spots.AGroup n

abbrev pub plain_spot : Spot → spots.Spot
plain_spot s = record { component = s.component; part = plain_part s.part }

abbrev pub plain_break : Break → Broken
plain_break b = record { rule = b.rule; spot = plain_spot b.spot; place = b.place; name = b.name }

abbrev pub key : Broken → List ℕ
key b = key_of b.rule b.spot b.place

-- whether a break of this key comes before the one that is kept
abbrev pub is_first : Option Broken → List ℕ → Bool
is_first None k = true
is_first (Some a) k = comes_before k (key a)

-- the first so far, and one more
abbrev pub earlier : Option Broken → Broken → Option Broken
earlier best b = if is_first best (key b) then Some b else best

-- the first of a list, where one is kept so far; at one key the one that stands first
abbrev pub first_of : Option Broken → List Broken → Option Broken
first_of best [] = best
first_of best (b ∷ bs) = first_of (earlier best b) bs
