-- Stage 5, combinational cycles, and stage 6, races.
use Rattle.std.specs.Prelude.{◌≡◌, ◌≢◌, ℕ, ◌<◌, ◌⊎◌, true, List, [], ◌∷◌, Some, length, flat_map, slice_get}
use Rattle.cx_text.specs.declared.places.Place.{Place}
use Rattle.cx_meaning.specs.declared.ports.PortRef.{PortRef}
use Rattle.cx_meaning.specs.Designs.{PlainComponent, PlainDesign, component_at, group_at, PlainForm, Empty, Enable, Seq, Par, If, While, Repeat, StaticSeq, StaticPar, StaticIf, StaticRepeat, Timed, PlainStatement, list_of}
use Rattle.cx_meaning.specs.Instances.{Instance, part_of}
use Rattle.cx_meaning.specs.Active.{Active, nothing, group}
use Rattle.cx_text.specs.Members.{In}
use Rattle.cx_rules.specs.Ports.{component_of, cell_name}
use Rattle.cx_rules.specs.Items.{Dynamic, visit}
use Rattle.cx_rules.specs.Footprints.{Depends}
use Rattle.cx_rules.specs.Invokes.{drives_all, ReadsAll}
use Rattle.cx_rules.specs.Spots.{Itself, Spot, Tells, StatementRule, GroupRule}

-- some port depends on itself under an active set
abbrev pub HasCycle : Instance → Active → Type 0
HasCycle i act = (p : PortRef) × Depends i act p p

-- RULE comb-cycle: a port depends on itself under the continuous assignments
pub record BreaksCombCycle (d : PlainDesign) (spot : Spot) (place : Place) (name : List ℕ) : Type 0 where
  pub within : spot.component < length d.components
  pub is : spot.part ≡ Itself 0
  pub cycle : HasCycle (component_of d spot.component) nothing
  pub tells : Tells place name (component_at d spot.component).place (component_at d spot.component).name

-- or under them with one group
abbrev pub GroupBreaksCombCycle : GroupRule
GroupBreaksCombCycle i g place name =
    HasCycle i (group g) × Tells place name (group_at (part_of i) g).place (group_at (part_of i) g).name

-- the arms of a par and of a static par
abbrev pub arms_of : PlainForm → List PlainStatement
arms_of Empty = []
arms_of (Enable g) = []
arms_of (Seq parts) = []
arms_of (Par arms) = list_of arms
arms_of (If test comb a b) = []
arms_of (While test comb a) = []
arms_of (Repeat count a) = []
arms_of (StaticSeq length parts) = []
arms_of (StaticPar length arms) = list_of arms
arms_of (StaticIf length test a b) = []
arms_of (StaticRepeat length count a) = []
arms_of (Timed k) = []

abbrev pub enabled_group : PlainForm → List ℕ
enabled_group Empty = []
enabled_group (Enable g) = g ∷ []
enabled_group (Seq parts) = []
enabled_group (Par arms) = []
enabled_group (If test comb a b) = []
enabled_group (While test comb a) = []
enabled_group (Repeat count a) = []
enabled_group (StaticSeq length parts) = []
enabled_group (StaticPar length arms) = []
enabled_group (StaticIf length test a b) = []
enabled_group (StaticRepeat length count a) = []
enabled_group (Timed k) = []

-- the groups that a statement enables; the comb groups of tests are not among them
abbrev pub enabled_in : PlainStatement → List ℕ
enabled_in s = flat_map (λ v. enabled_group v.form) (visit Dynamic s)

-- two different arms
pub record Arms (arms : List PlainStatement) : Type 0 where
  pub one : ℕ
  pub other : ℕ
  pub differ : one ≢ other
  pub first : PlainStatement
  pub second : PlainStatement
  pub first_stands : slice_get arms one ≡ Some first
  pub second_stands : slice_get arms other ≡ Some second

-- a cell that one arm drives and another reads
abbrev pub IsShared : PlainComponent → List PlainStatement → ℕ → Type 0
IsShared part arms c = (two : Arms arms) × (drives_all part two.first c ≡ true) × ReadsAll part two.second c

-- a group that two arms enable
abbrev pub IsEnabledTwice : List PlainStatement → ℕ → Type 0
IsEnabledTwice arms g = (two : Arms arms) × In (enabled_in two.first) g × In (enabled_in two.second) g

-- RULE race, named by the first cell, in cell order, that an arm drives and another arm reads; where there is none, by the
-- first group, by its number, that two arms enable
abbrev pub BreaksRace : StatementRule
BreaksRace i v place name =
    ((c : ℕ) × IsShared (part_of i) (arms_of v.form) c × ((e : ℕ) → e < c → IsShared (part_of i) (arms_of v.form) e → ⊥)
    × Tells place name v.place (cell_name (part_of i).cells c))
    ⊎ (((c : ℕ) → IsShared (part_of i) (arms_of v.form) c → ⊥)
    × ((g : ℕ) × IsEnabledTwice (arms_of v.form) g × ((h : ℕ) → h < g → IsEnabledTwice (arms_of v.form) h → ⊥)
    × Tells place name v.place (group_at (part_of i) g).name))
