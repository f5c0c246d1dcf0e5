-- What stands in the source of a design, so that nothing of its control hides there: the modules of its components and of primitives, an
-- instance for each cell and each timer, few registers and no array beside them; names of its own; few nets.
use Rattle.std.specs.Prelude.{◌≡◌, ◌⊎◌, ℕ, ◌+◌, ◌*◌, ◌<◌, ◌≤◌, ◌||◌, Bool, true, List, [], ◌∷◌, ◌++◌, length, map, take, All, Option, Some, None, slice_get, codes}
use Rattle.cx_prim.specs.declared.names.PrimitiveName.TheVariants as primitives
use Rattle.cx_prim.specs.Table.{PrimitiveRow}
use Rattle.cx_meaning.specs.Designs.{PlainKind, OfPrimitive, OfComponent, PlainCell, PlainComponent, PlainDesign, component_at, PlainForm, Par, Repeat, StaticIf, StaticRepeat, list_of}
use Rattle.cx_meaning.specs.Islands.{form_length, length_of}
use Rattle.cx_rules.specs.Items.{Visited, statements_in}
use Rattle.cx_rules.specs.Sizes.{weight_of}
use Rattle.cx_rules.specs.StaticControl.{is_island}
use Rattle.cx_rules.specs.Wellformed.{LeadsTo}
use Rattle.cx_vtree.specs.InstanceTree.{same_name, instances_of}
use Rattle.cx_vtree.specs.Plain.{PlainDecl, WireOf, RegisterOf, ArrayOf, PlainInstance, PlainModule, PlainSource}
use Rattle.cx_vtree.specs.Sound.{has_name, decl_name, arrays_in}
use Rattle.cx_vlaws.specs.Counts.{nets_count}
use Rattle.cx_vmods.specs.Modules.{module_of}

-- a sum over statements
abbrev pub summed : (Visited → ℕ) → List Visited → ℕ
summed f [] = 0
summed f (v ∷ vs) = f v + summed f vs

abbrev pub arms_in : PlainForm → ℕ
arms_in (Par arms) = length (list_of arms)
arms_in other = 0

abbrev pub repeats_in : PlainForm → ℕ
repeats_in (Repeat count body) = 1
repeats_in other = 0

abbrev pub static_ifs_in : PlainForm → ℕ
static_ifs_in (StaticIf written test a b) = 1
static_ifs_in other = 0

-- two for each region, which is the control of the component or an arm of a `par`; one for each `repeat`, and one for each
-- `static if`; and two more
abbrev pub most_registers : PlainComponent → ℕ
most_registers part =
    2 * (1 + summed (λ v. arms_in v.form) (statements_in part)) + summed (λ v. repeats_in v.form) (statements_in part)
    + summed (λ v. static_ifs_in v.form) (statements_in part) + 2

-- the cycles of one round of a `static repeat`
abbrev pub round_of : PlainComponent → PlainForm → Option ℕ
round_of part (StaticRepeat written count body) = Some (length_of part body)
round_of part other = None

-- a timer of so many cycles
abbrev pub timer_kind : ℕ → PlainKind
timer_kind n = OfPrimitive (record { name = primitives.Timer; numbers = n ∷ [] })

abbrev pub registers_in : List PlainDecl → ℕ
registers_in [] = 0
registers_in (WireOf n w ∷ ds) = registers_in ds
registers_in (RegisterOf n w ∷ ds) = 1 + registers_in ds
registers_in (ArrayOf n w k ∷ ds) = registers_in ds

-- what an instance in the module of a component is for: a cell, or the timer of an island or that of a `static
-- repeat`, each the statement of this number among the component's, in pre-order
pub data Use : Type 0 where
  ForCell : (cell : ℕ) → Use
  ForIsland : (statement : ℕ) → Use
  ForRepeat : (statement : ℕ) → Use

-- a timer of this kind is for this: an island has one of its own length, a `static repeat` one of the length of a round
abbrev pub IsTimerOf : PlainComponent → PlainKind → Use → Type 0
IsTimerOf part kind (ForCell c) = ⊥
IsTimerOf part kind (ForIsland n) =
    (v : Visited) × (slice_get (statements_in part) n ≡ Some v) × (is_island part v ≡ true)
    × (kind ≡ timer_kind (form_length part v.form))
IsTimerOf part kind (ForRepeat n) =
    (v : Visited) × (slice_get (statements_in part) n ≡ Some v)
    × ((cycles : ℕ) × (round_of part v.form ≡ Some cycles) × (kind ≡ timer_kind cycles))

-- the module of an instance, of component k, is of the kind that its use wants
abbrev pub IsUse : PlainDesign → ℕ → PlainKind → Use → Type 0
IsUse d k kind (ForCell c) =
    (cell : PlainCell) × (slice_get (component_at d k).cells c ≡ Some cell) × (kind ≡ cell.kind)
IsUse d k kind (ForIsland n) = IsTimerOf (component_at d k) kind (ForIsland n)
IsUse d k kind (ForRepeat n) = IsTimerOf (component_at d k) kind (ForRepeat n)

-- THE MODULE OF A COMPONENT that main reaches, where `kind` tells what the module of each name is of
pub record IsPartModule (d : PlainDesign) (kind : List ℕ → PlainKind) (k : ℕ) (m : PlainModule) : Type 0 where
  pub reached : (k ≡ d.main) ⊎ LeadsTo d d.main k
  pub no_array : arrays_in m.decls ≡ []
  pub registers : registers_in m.decls ≤ most_registers (component_at d k)
  -- what each instance is for, by its place; no two are for one thing
  pub use_of : ℕ → Use
  pub each : (i : ℕ) (x : PlainInstance) → slice_get m.instances i ≡ Some x → IsUse d k (kind x.kind) (use_of i)
  pub once : (i j : ℕ) → i < length m.instances → j < length m.instances → use_of i ≡ use_of j → i ≡ j

-- a module of a primitive is the one that the primitive has under that name
abbrev pub IsOfKind : PlainDesign → (List ℕ → PlainKind) → PlainKind → PlainModule → Type 0
IsOfKind d kind (OfPrimitive p) m = m ≡ module_of p m.name
IsOfKind d kind (OfComponent k) m = IsPartModule d kind k m

-- NOTHING HIDES: each module is of a primitive or of a component, and `main` of main; one alone is of a primitive and its numbers
pub record IsShaped (d : PlainDesign) (source : PlainSource) : Type 0 where
  pub kind : List ℕ → PlainKind
  pub modules : All (λ m. IsOfKind d kind (kind m.name) m) source.modules
  pub one_each : (p : PrimitiveRow) (i j : ℕ) (m n : PlainModule) → slice_get source.modules i ≡ Some m
      → slice_get source.modules j ≡ Some n
      → kind m.name ≡ OfPrimitive p → kind n.name ≡ OfPrimitive p → i ≡ j
  pub main : kind (codes "main") ≡ OfComponent d.main

-- `main`, and the ports that each component has
abbrev pub given_names : List (List ℕ)
given_names = codes "main" ∷ codes "clk" ∷ codes "reset" ∷ codes "go" ∷ codes "done" ∷ []

-- a name that no other word of Verilog is: it begins with `cx_`, or is given
abbrev pub is_own_name : List ℕ → Bool
is_own_name name = same_name (take 3 name) (codes "cx_") || has_name given_names name

-- what a module names: itself, its ports, what it declares, its instances
abbrev pub named_in : PlainModule → List (List ℕ)
named_in m = m.name ∷ map (λ p. p.name) m.ports ++ (map decl_name m.decls ++ map (λ i. i.name) m.instances)

abbrev pub HasOwnNames : PlainSource → Type 0
HasOwnNames source = All (λ m. All (λ name. is_own_name name ≡ true) (named_in m)) source.modules

-- FEW NETS: 64 for each unit of weight at most
abbrev pub HasFewNets : PlainDesign → PlainSource → Type 0
HasFewNets d source = nets_count (instances_of source) ≤ 64 * weight_of d
