-- What the rules keep of an instance with static children, as far as flattening asks for it.
use Rattle.std.specs.Prelude.{◌≡◌, ℕ, ◌<◌, ◌⊎◌, true, false, length}
use Rattle.cx_prim.specs.declared.ports.Side.TheVariants as sides
use Rattle.cx_prim.specs.Rows.{Row}
use Rattle.cx_meaning.specs.declared.ports.PortRef.{PortRef}
use Rattle.cx_meaning.specs.declared.ports.PortRef.TheVariants as ports
use Rattle.cx_meaning.specs.Designs.{PlainAssign, PlainGroup, PlainComponent}
use Rattle.cx_meaning.specs.Instances.{Instance, Node, Cells, no_cells, a_primitive, an_instance, Nothing, OfRow, OfInstance, part_of, cells_of, cell_at, cell_count}
use Rattle.cx_text.specs.Members.{In}
use Rattle.cx_meaning.specs.Rows.{side_of}
use Rattle.cx_rules.specs.Ports.{is_source_only}
use Rattle.cx_rules.specs.Footprints.{AssignNames, Rests}
use Rattle.cx_rules.specs.ShapeRules.{LeadsToInput}
use Rattle.cx_flattening.specs.Events.{the_invoke, source_to}
use Rattle.cx_flattening.specs.Whole.{is_static}
use Rattle.cx_flattening.specs.Flattened.{flat_kids}
use Rattle.cx_flattening.specs.Targets.{HasTargets}
use Rattle.cx_flattening.specs.Levels.{IsKnown}

-- an assignment of a component, continuous or of a group
abbrev pub IsAssignOf : PlainComponent → PlainAssign → Type 0
IsAssignOf part a = In part.always a ⊎ ((x : PlainGroup) × In part.groups x × In x.assigns a)

-- a port that may be named: of a static component's cell an output, and no output or hole of the component itself
abbrev pub IsNamed : Instance → PortRef → Type 0
IsNamed i (ports.Cell c p) = IsKnown i (ports.Cell c p)
IsNamed i (ports.Input n) = n < length (part_of i).inputs
IsNamed i (ports.Output n) = ⊥
IsNamed i (ports.Done g) = ⊥
IsNamed i (ports.Literal w v) = Unit {0}

-- that a port does not rest on state is not so
abbrev pub IsAtRest : Instance → PortRef → Type 0
IsAtRest i q = (Rests i q → ⊥) → ⊥

-- an instance: its cells are there, what is driven and what is named may be, cells read inputs, and its outputs rest on state and lead to
-- no input
pub record IsFair (i : Instance) : Type 0 where
  pub count : cell_count (cells_of i) ≡ length (part_of i).cells
  pub counts : (c : ℕ) → c < length (part_of i).cells → (cell_at (cells_of i) c ≡ Nothing → ⊥)
  pub within : (c : ℕ) → (cell_at (cells_of i) c ≡ Nothing → ⊥) → c < length (part_of i).cells
  pub targets : HasTargets (flat_kids (cells_of i)) (part_of i)
  pub names : (a : PlainAssign) (q : PortRef) → IsAssignOf (part_of i) a → AssignNames a q → IsNamed i q
  pub sources : (j n : ℕ) (child : Instance) → j < length (part_of i).invokes
      → cell_at (cells_of i) (the_invoke (part_of i) j).cell ≡ OfInstance child
      → n < length (part_of child).inputs
      → IsNamed i (source_to (the_invoke (part_of i) j).cell (the_invoke (part_of i) j).inputs n)
  pub kept : is_static i ≡ true → (a : PlainAssign) (n : ℕ) → In (part_of i).always a
      → AssignNames a (ports.Input n) → ⊥
  pub not_source : (a : PlainAssign) → IsAssignOf (part_of i) a → is_source_only i a.target ≡ false
  pub reads : (c p m : ℕ) (row : Row) → cell_at (cells_of i) c ≡ OfRow row → row.reads p m ≡ true
      → (side_of row m ≡ sides.Enable) ⊎ (side_of row m ≡ sides.Plain)
  pub outputs_rest : (n : ℕ) (a : PlainAssign) (q : PortRef) → In (part_of i).always a
      → a.target ≡ ports.Output n → AssignNames a q → IsAtRest i q
  pub outputs_lead : (n : ℕ) (a : PlainAssign) (q : PortRef) → In (part_of i).always a
      → a.target ≡ ports.Output n → AssignNames a q → LeadsToInput i q → ⊥
  pub outputs_outside : (x : PlainGroup) (a : PlainAssign) (n : ℕ) → In (part_of i).groups x
      → In x.assigns a → a.target ≡ ports.Output n → ⊥

abbrev mutual
  pub AllFair : Instance → Type 0
  AllFair (Node part cells) = IsFair (Node part cells) × AllFairBelow cells

  pub AllFairBelow : Cells → Type 0
  AllFairBelow no_cells = Unit {0}
  AllFairBelow (a_primitive row rest) = AllFairBelow rest
  AllFairBelow (an_instance child rest) = AllFair child × AllFairBelow rest
