-- The breaks of the rules on combinational cycles, by which active sets have a circle.
use Rattle.std.specs.Prelude.{◌≡◌, ℕ, ◌<◌, ◌⊎◌, Bool, List, [], ◌∷◌, ◌++◌, if◌then◌else◌}
use Rattle.cx_text.specs.declared.places.Place.{Place}
use Rattle.cx_text.specs.declared.rules.Rule.{Rule}
use Rattle.cx_text.specs.declared.rules.Rule.TheVariants.{CombCycle}
use Rattle.cx_meaning.specs.Designs.{PlainDesign, component_at, group_at}
use Rattle.cx_rules.specs.Spots.{Itself, AGroup, Spot, OnGroup}
use Rattle.cx_rules.specs.RaceRule.{BreaksCombCycle, GroupBreaksCombCycle}
use Rattle.cx_design_parts.specs.Breaks.{Broken}
use Rattle.cx_design_parts.specs.Numbered.{numbered}

abbrev pub told_if : Bool → Broken → List Broken
told_if found b = if found then b ∷ [] else []

-- of component k, and of a group of it
abbrev pub whole_break : PlainDesign → ℕ → Broken
whole_break d k =
    record {
      rule = CombCycle;
      spot = record { component = k; part = Itself 0 };
      place = (component_at d k).place;
      name = (component_at d k).name;
    }

abbrev pub group_break : PlainDesign → ℕ → ℕ → Broken
group_break d k g =
    record {
      rule = CombCycle;
      spot = record { component = k; part = AGroup g };
      place = (group_at (component_at d k) g).place;
      name = (group_at (component_at d k) g).name;
    }

abbrev pub group_breaks : PlainDesign → ℕ → ℕ → Bool → List Broken
group_breaks d k g found = told_if found (group_break d k g)

abbrev pub component_breaks : PlainDesign → ℕ → Bool → List Bool → List Broken
component_breaks d k whole groups = told_if whole (whole_break d k) ++ numbered (group_breaks d k) 0 groups

-- THE BREAKS of the rules, and those in the components before a number, or in one of them
abbrev pub CombBreaks : PlainDesign → Rule → Spot → Place → List ℕ → Type 0
CombBreaks d rule spot place name =
    (rule ≡ CombCycle)
    × (BreaksCombCycle d spot place name ⊎ OnGroup GroupBreaksCombCycle d spot place name)

abbrev pub BreaksBefore : PlainDesign → ℕ → Rule → Spot → Place → List ℕ → Type 0
BreaksBefore d k rule spot place name = (spot.component < k) × CombBreaks d rule spot place name

abbrev pub BreaksAt : PlainDesign → ℕ → Rule → Spot → Place → List ℕ → Type 0
BreaksAt d k rule spot place name = (spot.component ≡ k) × CombBreaks d rule spot place name
