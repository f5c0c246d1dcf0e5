-- Static invokes that break the rule, and what is kept of them.
use Rattle.std.specs.Prelude.{◌≡◌, ℕ, zero, suc, ◌<◌, ◌⊎◌, Bool, true, false, not, ◌||◌, List, [], ◌∷◌, Option, Some, None, length, slice_get}
use Rattle.std.specs.List.{list_any}
use Rattle.cx_text.specs.declared.places.Place.{Place}
use Rattle.cx_meaning.specs.declared.ports.PortRef.TheVariants as ports
use Rattle.cx_meaning.specs.Designs.{PlainAssign, PlainInvoke, PlainComponent, PlainDesign, component_at}
use Rattle.cx_meaning.specs.Instances.{Instance, part_of, cells_of, cell_at, input_count}
use Rattle.cx_meaning.specs.Active.{same_port}
use Rattle.cx_text.specs.Members.{In}
use Rattle.cx_rules.specs.Ports.{cell_name}
use Rattle.cx_rules.specs.Items.{sources_of, Visited}
use Rattle.cx_rules.specs.Footprints.{AssignNames}
use Rattle.cx_rules.specs.ShapeRules.{some_target}
use Rattle.cx_rules.specs.Invokes.{invoke_at, invoke_in}
use Rattle.cx_rules.specs.InvokeShape.{LeadsToCell, input_port, InvokeBreak}
use Rattle.cx_rules.specs.Spots.{AStatement, Spot}
use Rattle.cx_design_parts.specs.Breaks.{Broken}
use Rattle.cx_shape_state.specs.StateBreaks.{all_rest}
use Rattle.cx_shape_calls.specs.Decisions.{told_if}

-- whether an assignment binds input n of cell c, and whether one of the first so many inputs is bound by none
abbrev pub is_bound : ℕ → List PlainAssign → ℕ → Bool
is_bound c inputs n = some_target (same_port (input_port c n)) inputs

abbrev pub some_unbound : ℕ → List PlainAssign → ℕ → Bool
some_unbound c inputs zero = false
some_unbound c inputs (suc n) = not (is_bound c inputs n) || some_unbound c inputs n

-- for each of so many inputs of cell c whether it is bound
pub record AreBound (c : ℕ) (inputs : List PlainAssign) (count : ℕ) (marks : List Bool) : Type 0 where
  pub many : length marks ≡ count
  pub tell : (n : ℕ) → n < count → slice_get marks n ≡ Some (is_bound c inputs n)

-- a source that does not rest on state
abbrev pub is_restless : Instance → List PlainAssign → Bool
is_restless i inputs = list_any (λ a. not (all_rest i true (sources_of a))) inputs

-- one of the inputs names a cell that leads to cell c
pub record FeedsBack (part : PlainComponent) (inputs : List PlainAssign) (c : ℕ) : Type 0 where
  pub input : PlainAssign
  pub stands : In inputs input
  pub cell : ℕ
  pub port : ℕ
  pub names : AssignNames input (ports.Cell cell port)
  pub leads : LeadsToCell part cell c

-- what is wrong with a static invoke, as it is looked for
abbrev pub IsWrong : Instance → PlainInvoke → Type 0
IsWrong i w =
    (w.latency ≡ None)
    ⊎ (some_unbound w.cell w.inputs (input_count (cell_at (cells_of i) w.cell)) ≡ true)
    ⊎ (is_restless i w.inputs ≡ true)
    ⊎ FeedsBack (part_of i) w.inputs w.cell

-- WHAT IS KEPT of the first so many static invokes: whether each breaks the rule
abbrev pub IsMarkOf : Instance → PlainInvoke → Bool → Type 0
IsMarkOf i w b = (b ≡ true → InvokeBreak i w) × (InvokeBreak i w → b ≡ true)

pub record AreMarksOf (i : Instance) (count : ℕ) (marks : List Bool) : Type 0 where
  pub many : length marks ≡ count
  pub tell : (k : ℕ) (w : PlainInvoke) → k < count → invoke_at (part_of i) k ≡ Some w
      → (b : Bool) × (slice_get marks k ≡ Some b) × IsMarkOf i w b

abbrev pub or_false : Option Bool → Bool
or_false None = false
or_false (Some b) = b

-- THE BREAKS of a statement, by the numbers of the static invokes in it, of which it has at most one
abbrev pub invoked_name : PlainComponent → Option PlainInvoke → List ℕ
invoked_name part None = []
invoked_name part (Some w) = cell_name part.cells w.cell

abbrev pub invoke_breaks : PlainComponent → List Bool → Spot → Place → List ℕ → List Broken
invoke_breaks part marks spot place [] = []
invoke_breaks part marks spot place (k ∷ ks) =
    told_if (or_false (slice_get marks k)) spot place (invoked_name part (invoke_at part k))

abbrev pub statement_breaks_at : PlainDesign → ℕ → List Bool → ℕ → Visited → List Broken
statement_breaks_at d k marks n v =
    invoke_breaks (component_at d k) marks (record { component = k; part = AStatement n }) v.place
    (invoke_in v.form)
