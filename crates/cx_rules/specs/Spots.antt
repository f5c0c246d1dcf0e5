-- Where a rule is broken: the part, its place and its name.
use Rattle.std.specs.Prelude.{◌≡◌, ℕ, ◌<◌, List, None, Some, flat_map, length, slice_get}
use Rattle.cx_text.specs.declared.places.Place.{Place}
use Rattle.cx_meaning.specs.Designs.{PlainAssign, PlainComponent, PlainDesign, component_at}
use Rattle.cx_meaning.specs.Instances.{Instance}
use Rattle.cx_meaning.specs.Active.{Owned, source_order}
use Rattle.cx_rules.specs.Ports.{component_of}
use Rattle.cx_rules.specs.Items.{Visited, statements_in}

-- a part of a component, by its number in the component's list of its kind: an input that a static invoke binds, an assignment in
-- source order, a statement in pre-order, a group; or the component, by itself or with all below it, with the number of a word of the rule
pub data Part : Type 0 where
  Itself : (word : ℕ) → Part
  ABind : (number : ℕ) → Part
  AnAssign : (number : ℕ) → Part
  AStatement : (number : ℕ) → Part
  AGroup : (number : ℕ) → Part
  Whole : (word : ℕ) → Part

pub record Spot : Type 0 where
  pub component : ℕ
  pub part : Part

-- what is told of a break
abbrev pub Tells : Place → List ℕ → Place → List ℕ → Type 0
Tells place name at called = (place ≡ at) × (name ≡ called)

-- a rule on one part of a component tells the place and the name of a break
abbrev pub AssignRule : Type 1
AssignRule = Instance → Owned → Place → List ℕ → Type 0

abbrev pub StatementRule : Type 1
StatementRule = Instance → Visited → Place → List ℕ → Type 0

abbrev pub GroupRule : Type 1
GroupRule = Instance → ℕ → Place → List ℕ → Type 0

-- an assignment of the design breaks the rule
pub record OnAssign (rule : AssignRule) (d : PlainDesign) (spot : Spot) (place : Place) (name : List ℕ) : Type 0 where
  pub within : spot.component < length d.components
  pub number : ℕ
  pub is : spot.part ≡ AnAssign number
  pub assign : Owned
  pub stands : slice_get (source_order (component_at d spot.component)) number ≡ Some assign
  pub breaks : rule (component_of d spot.component) assign place name

-- the inputs that the static invokes of a component bind, in the order of the invokes
abbrev pub binds_in : PlainComponent → List PlainAssign
binds_in part = flat_map (λ v. v.inputs) part.invokes

-- a bound input of a static invoke breaks the rule
pub record OnBind (rule : AssignRule) (d : PlainDesign) (spot : Spot) (place : Place) (name : List ℕ) : Type 0 where
  pub within : spot.component < length d.components
  pub number : ℕ
  pub is : spot.part ≡ ABind number
  pub assign : PlainAssign
  pub stands : slice_get (binds_in (component_at d spot.component)) number ≡ Some assign
  pub breaks : rule (component_of d spot.component) (record { owner = None; assign = assign }) place name

-- a statement of the design breaks the rule
pub record OnStatement (rule : StatementRule) (d : PlainDesign) (spot : Spot) (place : Place)
    (name : List ℕ) : Type 0 where
  pub within : spot.component < length d.components
  pub number : ℕ
  pub is : spot.part ≡ AStatement number
  pub statement : Visited
  pub stands : slice_get (statements_in (component_at d spot.component)) number ≡ Some statement
  pub breaks : rule (component_of d spot.component) statement place name

-- a group of the design breaks the rule
pub record OnGroup (rule : GroupRule) (d : PlainDesign) (spot : Spot) (place : Place) (name : List ℕ) : Type 0 where
  pub within : spot.component < length d.components
  pub number : ℕ
  pub is : spot.part ≡ AGroup number
  pub stands : number < length (component_at d spot.component).groups
  pub breaks : rule (component_of d spot.component) number place name
