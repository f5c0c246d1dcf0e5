-- The breaks of the rule on races that looking at some parts of a design finds.
use Rattle.std.specs.Prelude.{◌≡◌, ℕ, ◌<◌, List, [], ◌∷◌, Option, Some, None}
use Rattle.cx_text.specs.declared.places.Place.{Place}
use Rattle.cx_text.specs.declared.rules.Rule.TheVariants as rule
use Rattle.cx_meaning.specs.Designs.{PlainComponent, PlainDesign}
use Rattle.cx_text.specs.Members.{In}
use Rattle.cx_rules.specs.Spots.{AStatement, Spot, OnStatement}
use Rattle.cx_rules.specs.RaceRule.{BreaksRace}
use Rattle.cx_rules.specs.Accepted.{key_of}
use Rattle.cx_design_parts.specs.Breaks.{Broken, key, first_of}
use Rattle.cx_race.specs.declared.races.Race.{Race}
use Rattle.cx_race.specs.Races.{race_name}

-- a race that is told of a statement, where there is one
abbrev pub race_break : PlainComponent → Spot → Place → Option Race → List Broken
race_break part spot place None = []
race_break part spot place (Some race) =
    record { rule = rule.Race; spot = spot; place = place; name = race_name part race } ∷ []

-- statement n of component k; the statements before it; the components before k
abbrev pub IsAt : ℕ → ℕ → Spot → Type 0
IsAt k n spot = (spot.component ≡ k) × (spot.part ≡ AStatement n)

abbrev pub IsBefore : ℕ → ℕ → Spot → Type 0
IsBefore k n spot = (spot.component ≡ k) × ((m : ℕ) × (m < n) × (spot.part ≡ AStatement m))

abbrev pub IsOf : ℕ → Spot → Type 0
IsOf k spot = spot.component ≡ k

abbrev pub IsBeforeOf : ℕ → Spot → Type 0
IsBeforeOf k spot = spot.component < k

-- LOOKED AT: the first so far became the first with the breaks that were found. Each of them is one, and for each break at a part
-- that was looked at one of its key is found
pub record Looked (d : PlainDesign) (At : Spot → Type 0) (before after : Option Broken) : Type 0 where
  pub found : List Broken
  pub first : after ≡ first_of before found
  pub is_race : (b : Broken) → In found b → b.rule ≡ rule.Race
  pub breaks : (b : Broken) → In found b → OnStatement BreaksRace d b.spot b.place b.name
  pub all : (spot : Spot) (place : Place) (name : List ℕ) → At spot
      → OnStatement BreaksRace d spot place name
      → (b : Broken) × In found b × (key b ≡ key_of rule.Race spot place)
