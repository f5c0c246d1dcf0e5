-- When a design breaks a rule, its first break, and when it is accepted.
use Rattle.std.specs.Prelude.{◌≡◌, ℕ, ◌<◌, ◌⊎◌, nat_lt, nat_eq, Bool, false, ◌||◌, ◌&&◌, List, [], ◌∷◌}
use Rattle.cx_text.specs.declared.places.Place.{Place}
use Rattle.cx_text.specs.declared.diagnostics.Diagnostic.{Diagnostic}
use Rattle.cx_text.specs.declared.rules.Rule.{Rule}
use Rattle.cx_text.specs.declared.rules.Rule.TheVariants.{BadByte, OpenComment, OpenString, BadLiteral, Unexpected, TooDeep, Duplicate, UnknownName, UnknownPrimitive, BadParameters, Recursive, NoMain, LeftOut, Width, GuardWidth, Literal, NotATarget, NotASource, NoDone, DoneNotState, AlwaysEnable, CombEnable, StaticGuard, StaticShape, CallShape, OutputNotState, CombCycle, Race, Limit, TooLarge}
use Rattle.cx_meaning.specs.Designs.{PlainDesign}
use Rattle.cx_rules.specs.Spots.{Part, Itself, ABind, AnAssign, AStatement, AGroup, Whole, Spot, OnBind, OnAssign, OnStatement, OnGroup}
use Rattle.cx_rules.specs.WidthRules.{BreaksWidth, BreaksGuardWidth, TestBreaksGuardWidth, BreaksLiteral, TestBreaksLiteral, BreaksNotATarget, BreaksNotASource, TestBreaksNotASource}
use Rattle.cx_rules.specs.ShapeRules.{BreaksNoDone, BreaksDoneNotState, BreaksAlwaysEnable, BreaksCombEnable, BreaksStaticGuard, GroupBreaksStaticShape, BreaksStaticControl, BreaksLength, BreaksStaticTest, BreaksInvokeLength, BreaksPartLength, BreaksOutputNotState, BreaksKept}
use Rattle.cx_rules.specs.CallShape.{BreaksCallShape, GroupBreaksCallShape}
use Rattle.cx_rules.specs.InvokeShape.{BreaksStaticCell, BreaksInvoke}
use Rattle.cx_rules.specs.RaceRule.{BreaksCombCycle, GroupBreaksCombCycle, BreaksRace}
use Rattle.cx_rules.specs.LimitRule.{BreaksStatement, BreaksCells, BreaksGroups, BreaksInstances, BreaksDepth, BreaksWords, BreaksWeight}

-- THE TABLE: when a design breaks a rule of stages 3 to 7 at a part, with what place and what name. A design breaks none of
-- stages 1 and 2, and too-large is a matter of compile alone
abbrev pub Breaks : PlainDesign → Rule → Spot → Place → List ℕ → Type 0
Breaks d Width spot place name = OnAssign BreaksWidth d spot place name ⊎ OnBind BreaksWidth d spot place name
Breaks d GuardWidth spot place name =
    OnAssign BreaksGuardWidth d spot place name ⊎ OnStatement TestBreaksGuardWidth d spot place name
    ⊎ OnBind BreaksGuardWidth d spot place name
Breaks d Literal spot place name =
    OnAssign BreaksLiteral d spot place name ⊎ OnStatement TestBreaksLiteral d spot place name
    ⊎ OnBind BreaksLiteral d spot place name
Breaks d NotATarget spot place name =
    OnAssign BreaksNotATarget d spot place name ⊎ OnBind BreaksNotATarget d spot place name
Breaks d NotASource spot place name =
    OnAssign BreaksNotASource d spot place name ⊎ OnStatement TestBreaksNotASource d spot place name
    ⊎ OnBind BreaksNotASource d spot place name
Breaks d NoDone spot place name = OnGroup BreaksNoDone d spot place name
Breaks d DoneNotState spot place name = OnAssign BreaksDoneNotState d spot place name
Breaks d AlwaysEnable spot place name = OnAssign BreaksAlwaysEnable d spot place name
Breaks d CombEnable spot place name = OnAssign BreaksCombEnable d spot place name
Breaks d StaticGuard spot place name = OnAssign BreaksStaticGuard d spot place name
Breaks d StaticShape spot place name =
    OnGroup GroupBreaksStaticShape d spot place name ⊎ OnStatement BreaksStaticControl d spot place name
    ⊎ OnStatement BreaksLength d spot place name ⊎ OnStatement BreaksStaticTest d spot place name
    ⊎ OnStatement BreaksInvokeLength d spot place name ⊎ BreaksPartLength d spot place name
Breaks d CallShape spot place name =
    OnAssign BreaksCallShape d spot place name ⊎ OnGroup GroupBreaksCallShape d spot place name
    ⊎ OnAssign BreaksStaticCell d spot place name ⊎ OnStatement BreaksInvoke d spot place name
Breaks d OutputNotState spot place name =
    OnAssign BreaksOutputNotState d spot place name ⊎ OnAssign BreaksKept d spot place name
Breaks d CombCycle spot place name = BreaksCombCycle d spot place name ⊎ OnGroup GroupBreaksCombCycle d spot place name
Breaks d Race spot place name = OnStatement BreaksRace d spot place name
Breaks d Limit spot place name =
    BreaksCells d spot place name ⊎ BreaksGroups d spot place name ⊎ OnStatement BreaksStatement d spot place name
    ⊎ BreaksInstances d spot place name
    ⊎ BreaksDepth d spot place name ⊎ BreaksWords d spot place name ⊎ BreaksWeight d spot place name
Breaks d _ spot place name = ⊥

-- the number of a rule, from 1
abbrev pub number_of : Rule → ℕ
number_of BadByte = 1
number_of OpenComment = 2
number_of OpenString = 3
number_of BadLiteral = 4
number_of Unexpected = 5
number_of TooDeep = 6
number_of Duplicate = 7
number_of UnknownName = 8
number_of UnknownPrimitive = 9
number_of BadParameters = 10
number_of Recursive = 11
number_of NoMain = 12
number_of LeftOut = 13
number_of Width = 14
number_of GuardWidth = 15
number_of Literal = 16
number_of NotATarget = 17
number_of NotASource = 18
number_of NoDone = 19
number_of DoneNotState = 20
number_of AlwaysEnable = 21
number_of CombEnable = 22
number_of StaticGuard = 23
number_of StaticShape = 24
number_of CallShape = 25
number_of OutputNotState = 26
number_of CombCycle = 27
number_of Race = 28
number_of Limit = 29
number_of TooLarge = 30

-- the stage in which a rule is tried
abbrev pub stage_of : Rule → ℕ
stage_of BadByte = 1
stage_of OpenComment = 1
stage_of OpenString = 1
stage_of BadLiteral = 1
stage_of Unexpected = 1
stage_of TooDeep = 1
stage_of Duplicate = 2
stage_of UnknownName = 2
stage_of UnknownPrimitive = 2
stage_of BadParameters = 2
stage_of Recursive = 2
stage_of NoMain = 2
stage_of LeftOut = 2
stage_of Width = 3
stage_of GuardWidth = 3
stage_of Literal = 3
stage_of NotATarget = 3
stage_of NotASource = 3
stage_of NoDone = 4
stage_of DoneNotState = 4
stage_of AlwaysEnable = 4
stage_of CombEnable = 4
stage_of StaticGuard = 4
stage_of StaticShape = 4
stage_of CallShape = 4
stage_of OutputNotState = 4
stage_of CombCycle = 5
stage_of Race = 6
stage_of Limit = 7
stage_of TooLarge = 8

-- THE ORDER OF BREAKS: by place, then by the rule's number; of one rule at one place by the component, and in it what is of the
-- component by itself, then the inputs of its static invokes, its assignments, statements and groups, then what is of all below it
abbrev pub part_key : Part → List ℕ
part_key (Itself n) = 0 ∷ n ∷ []
part_key (ABind n) = 1 ∷ n ∷ []
part_key (AnAssign n) = 2 ∷ n ∷ []
part_key (AStatement n) = 3 ∷ n ∷ []
part_key (AGroup n) = 4 ∷ n ∷ []
part_key (Whole n) = 5 ∷ n ∷ []

abbrev pub key_of : Rule → Spot → Place → List ℕ
key_of rule spot place = place.line ∷ place.column ∷ number_of rule ∷ spot.component ∷ part_key spot.part

abbrev pub comes_before : List ℕ → List ℕ → Bool
comes_before [] ys = false
comes_before (x ∷ xs) [] = false
comes_before (x ∷ xs) (y ∷ ys) = nat_lt x y || (nat_eq x y && comes_before xs ys)

-- no rule of the stage is broken
abbrev pub KeepsStage : ℕ → PlainDesign → Type 0
KeepsStage stage d =
    (rule : Rule) (spot : Spot) (place : Place) (name : List ℕ) → stage_of rule ≡ stage
    → Breaks d rule spot place name → ⊥

-- the first break of a stage: no other break of the stage comes before it
pub record IsFirstOf (stage : ℕ) (d : PlainDesign) (told : Diagnostic) : Type 0 where
  pub in_stage : stage_of told.rule ≡ stage
  pub spot : Spot
  pub breaks : Breaks d told.rule spot told.place told.name
  pub first : (rule : Rule) (other : Spot) (place : Place) (name : List ℕ) → stage_of rule ≡ stage
      → Breaks d rule other place name
      → comes_before (key_of rule other place) (key_of told.rule spot told.place) ≡ false

-- THE FIRST BREAK of a design: that of the first stage that has one
pub record FirstBreak (d : PlainDesign) (told : Diagnostic) : Type 0 where
  pub stage : ℕ
  pub first : IsFirstOf stage d told
  pub earlier : (before : ℕ) → before < stage → KeepsStage before d

-- ACCEPTED: no rule of stages 3 to 7 is broken
pub record IsAccepted (d : PlainDesign) : Type 0 where
  pub widths : KeepsStage 3 d
  pub shapes : KeepsStage 4 d
  pub no_cycles : KeepsStage 5 d
  pub no_races : KeepsStage 6 d
  pub limits : KeepsStage 7 d
