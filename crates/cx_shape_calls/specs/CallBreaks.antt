-- The breaks of the rule on the shape of calls, as a family.
use Rattle.std.specs.Prelude.{◌≡◌, ◌<◌, ◌⊎◌, ℕ, List}
use Rattle.cx_text.specs.declared.places.Place.{Place}
use Rattle.cx_text.specs.declared.rules.Rule.{Rule}
use Rattle.cx_text.specs.declared.rules.Rule.TheVariants as rules
use Rattle.cx_meaning.specs.Designs.{PlainDesign}
use Rattle.cx_rules.specs.Spots.{Spot, OnAssign, OnGroup, OnStatement}
use Rattle.cx_rules.specs.CallShape.{BreaksCallShape, GroupBreaksCallShape}
use Rattle.cx_rules.specs.InvokeShape.{BreaksStaticCell, BreaksInvoke}
use Rattle.cx_rules.specs.Accepted.{Breaks}

abbrev pub CallShapeBreaks : PlainDesign → Rule → Spot → Place → List ℕ → Type 0
CallShapeBreaks d rule spot place name = (rule ≡ rules.CallShape) × Breaks d rules.CallShape spot place name

-- those of one component, and those of the components before a number
abbrev pub InComponent : PlainDesign → ℕ → Rule → Spot → Place → List ℕ → Type 0
InComponent d k rule spot place name = CallShapeBreaks d rule spot place name × (spot.component ≡ k)

-- of one component those of assignments and groups, and those of statements
abbrev pub ShapesIn : PlainDesign → ℕ → Rule → Spot → Place → List ℕ → Type 0
ShapesIn d k rule spot place name =
    ((rule ≡ rules.CallShape) × (OnAssign BreaksCallShape d spot place name ⊎
    OnGroup GroupBreaksCallShape d spot place name ⊎ OnAssign BreaksStaticCell d spot place name))
    × (spot.component ≡ k)

abbrev pub InvokesIn : PlainDesign → ℕ → Rule → Spot → Place → List ℕ → Type 0
InvokesIn d k rule spot place name =
    ((rule ≡ rules.CallShape) × OnStatement BreaksInvoke d spot place name) × (spot.component ≡ k)

abbrev pub Before : PlainDesign → ℕ → Rule → Spot → Place → List ℕ → Type 0
Before d k rule spot place name = CallShapeBreaks d rule spot place name × (spot.component < k)
