-- What the rules come to in a design without static components: no invoke binds inputs, lengths and footprints are
-- those of groups, and counts are those of what stands there.
use Rattle.std.specs.Prelude.{◌≡◌, ◌≢◌, ℕ, ◌<◌, ◌⊎◌, true, List, [], Some, length}
use Rattle.cx_text.specs.declared.places.Place.{Place}
use Rattle.cx_text.specs.declared.rules.Rule.{Rule}
use Rattle.cx_text.specs.declared.rules.Rule.TheVariants.{Width, GuardWidth, Literal, NotATarget, NotASource, NoDone, DoneNotState, AlwaysEnable, CombEnable, StaticGuard, StaticShape, CallShape, OutputNotState, CombCycle, Race, Limit}
use Rattle.cx_text.specs.declared.limits.TheConstants.{CELLS, GROUPS, INSTANCES, INSTANCE_DEPTH, WEIGHT}
use Rattle.cx_meaning.specs.Designs.{PlainComponent, PlainDesign, PlainStatement, component_at, group_at}
use Rattle.cx_meaning.specs.Instances.{part_of, tree_of}
use Rattle.cx_meaning.specs.Islands.{form_length}
use Rattle.cx_meaning.specs.Control.{drives}
use Rattle.cx_rules.specs.Ports.{cell_name}
use Rattle.cx_rules.specs.Footprints.{Reads}
use Rattle.cx_rules.specs.StaticControl.{is_static, form_has_length, written_length}
use Rattle.cx_rules.specs.Sizes.{weight_of, instances_below, depth_below}
use Rattle.cx_rules.specs.Spots.{Spot, Tells, StatementRule, OnAssign, OnStatement, OnGroup}
use Rattle.cx_rules.specs.WidthRules.{BreaksWidth, BreaksGuardWidth, TestBreaksGuardWidth, BreaksLiteral, TestBreaksLiteral, BreaksNotATarget, BreaksNotASource, TestBreaksNotASource}
use Rattle.cx_rules.specs.ShapeRules.{BreaksNoDone, BreaksDoneNotState, BreaksAlwaysEnable, BreaksCombEnable, BreaksStaticGuard, GroupBreaksStaticShape, BreaksStaticControl, BreaksStaticTest, BreaksOutputNotState}
use Rattle.cx_rules.specs.CallShape.{BreaksCallShape, GroupBreaksCallShape}
use Rattle.cx_rules.specs.RaceRule.{BreaksCombCycle, GroupBreaksCombCycle, Arms, arms_of, IsEnabledTwice}
use Rattle.cx_rules.specs.LimitRule.{Limited, OnCells, OnGroups, OnInstances, OnDepth, OnWeight, word_of, flat_limit, BreaksPart, BreaksTree, BreaksWords}
use Rattle.cx_rules.specs.Accepted.{stage_of}
use Rattle.cx_rules.specs.Accepted as whole
use Rattle.cx_rules.specs.Flat.{IsFlat}

-- a static statement whose written length is not its length, or whose length is 0
abbrev pub BreaksLength : StatementRule
BreaksLength i v place name =
    (is_static v.form ≡ true) × (form_has_length (part_of i) v.context v.form ≡ true)
    × (((n : ℕ) × (written_length v.form ≡ Some n) × (n ≢ form_length (part_of i) v.form)) ⊎
    (form_length (part_of i) v.form ≡ 0))
    × Tells place name v.place []

-- a cell that one arm drives and another reads
abbrev pub IsShared : PlainComponent → List PlainStatement → ℕ → Type 0
IsShared part arms c = (two : Arms arms) × (drives part two.first c ≡ true) × Reads part two.second c

abbrev pub BreaksRace : StatementRule
BreaksRace i v place name =
    ((c : ℕ) × IsShared (part_of i) (arms_of v.form) c × ((e : ℕ) → e < c → IsShared (part_of i) (arms_of v.form) e → ⊥)
    × Tells place name v.place (cell_name (part_of i).cells c))
    ⊎ (((c : ℕ) → IsShared (part_of i) (arms_of v.form) c → ⊥)
    × ((g : ℕ) × IsEnabledTwice (arms_of v.form) g × ((h : ℕ) → h < g → IsEnabledTwice (arms_of v.form) h → ⊥)
    × Tells place name v.place (group_at (part_of i) g).name))

abbrev pub BreaksStatement : StatementRule
BreaksStatement i v place name =
    (limited : Limited) × (flat_limit (part_of i) v ≡ Some limited) × Tells place name v.place (word_of limited)

abbrev pub BreaksCells : PlainDesign → Spot → Place → List ℕ → Type 0
BreaksCells d spot place name =
    BreaksPart d OnCells (length (component_at d spot.component).cells) CELLS spot place name

abbrev pub BreaksGroups : PlainDesign → Spot → Place → List ℕ → Type 0
BreaksGroups d spot place name =
    BreaksPart d OnGroups (length (component_at d spot.component).groups) GROUPS spot place name

abbrev pub BreaksInstances : PlainDesign → Spot → Place → List ℕ → Type 0
BreaksInstances d = BreaksTree d OnInstances (instances_below (tree_of d)) INSTANCES

abbrev pub BreaksDepth : PlainDesign → Spot → Place → List ℕ → Type 0
BreaksDepth d = BreaksTree d OnDepth (depth_below (tree_of d)) INSTANCE_DEPTH

abbrev pub BreaksWeight : PlainDesign → Spot → Place → List ℕ → Type 0
BreaksWeight d = BreaksTree d OnWeight (weight_of d) WEIGHT

-- THE TABLE
abbrev pub Breaks : PlainDesign → Rule → Spot → Place → List ℕ → Type 0
Breaks d Width spot place name = OnAssign BreaksWidth d spot place name
Breaks d GuardWidth spot place name =
    OnAssign BreaksGuardWidth d spot place name ⊎ OnStatement TestBreaksGuardWidth d spot place name
Breaks d Literal spot place name =
    OnAssign BreaksLiteral d spot place name ⊎ OnStatement TestBreaksLiteral d spot place name
Breaks d NotATarget spot place name = OnAssign BreaksNotATarget d spot place name
Breaks d NotASource spot place name =
    OnAssign BreaksNotASource d spot place name ⊎ OnStatement TestBreaksNotASource d spot place name
Breaks d NoDone spot place name = OnGroup BreaksNoDone d spot place name
Breaks d DoneNotState spot place name = OnAssign BreaksDoneNotState d spot place name
Breaks d AlwaysEnable spot place name = OnAssign BreaksAlwaysEnable d spot place name
Breaks d CombEnable spot place name = OnAssign BreaksCombEnable d spot place name
Breaks d StaticGuard spot place name = OnAssign BreaksStaticGuard d spot place name
Breaks d StaticShape spot place name =
    OnGroup GroupBreaksStaticShape d spot place name ⊎ OnStatement BreaksStaticControl d spot place name
    ⊎ OnStatement BreaksLength d spot place name ⊎ OnStatement BreaksStaticTest d spot place name
Breaks d CallShape spot place name =
    OnAssign BreaksCallShape d spot place name ⊎ OnGroup GroupBreaksCallShape d spot place name
Breaks d OutputNotState spot place name = OnAssign BreaksOutputNotState d spot place name
Breaks d CombCycle spot place name = BreaksCombCycle d spot place name ⊎ OnGroup GroupBreaksCombCycle d spot place name
Breaks d Race spot place name = OnStatement BreaksRace d spot place name
Breaks d Limit spot place name =
    BreaksCells d spot place name ⊎ BreaksGroups d spot place name ⊎ OnStatement BreaksStatement d spot place name
    ⊎ BreaksInstances d spot place name
    ⊎ BreaksDepth d spot place name ⊎ BreaksWords d spot place name ⊎ BreaksWeight d spot place name
Breaks d _ spot place name = ⊥

abbrev pub KeepsStage : ℕ → PlainDesign → Type 0
KeepsStage stage d =
    (rule : Rule) (spot : Spot) (place : Place) (name : List ℕ) → stage_of rule ≡ stage
    → Breaks d rule spot place name → ⊥

-- ACCEPTED, and without static components
pub record IsAccepted (d : PlainDesign) : Type 0 where
  pub flat : IsFlat d
  pub accepted : whole.IsAccepted d
  pub widths : KeepsStage 3 d
  pub shapes : KeepsStage 4 d
  pub no_cycles : KeepsStage 5 d
  pub no_races : KeepsStage 6 d
  pub limits : KeepsStage 7 d
