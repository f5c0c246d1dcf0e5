-- What each number of a component's control stands for beside its place, and what an idle edge makes of it.
use Rattle.std.specs.Prelude.{◌≡◌, ℕ, zero, suc, ◌==◌, List, [], ◌∷◌, ◌++◌, replicate, slice_get, Option, Some, None, if◌then◌else◌}
use Rattle.cx_prim.specs.CellStates.{CellState}
use Rattle.cx_meaning.specs.declared.kinds.GroupKind.{GroupKind}
use Rattle.cx_meaning.specs.declared.kinds.GroupKind.TheVariants as kinds
use Rattle.cx_meaning.specs.Designs.{PlainComponent, PlainForm, Empty, Enable, Seq, Par, If, While, Repeat, StaticSeq, StaticPar, StaticIf, StaticRepeat, Timed, PlainStatement, Placed, PlainStatements, no_statements, a_statement, group_at}
use Rattle.cx_meaning.specs.Instances.{Instance, Node, Cells, no_cells, a_primitive, an_instance, part_of, Path, State, idle_at, idle_below}
use Rattle.cx_meaning.specs.Sights.{Held}
use Rattle.cx_laws.specs.Samples.{form_ifs}
use Rattle.cx_lockstep.specs.Worlds.{World}
use Rattle.cx_control.specs.Spots.{Spot, Cell, Number, Input, Holds, shown}
use Rattle.cx_control.specs.Controls.{end_of}

pub data Role : Type 0 where
  -- the place of an arm
  PlaceOfArm : Role
  -- the rounds of a repeat that are over
  RoundsOver : Role
  -- the count or the done of the timer of an island
  OfTimer : Role
  -- the sample of a static if
  OfSample : Role

-- THE NUMBERS of a statement beside its place, in the order of its coding
module _ (part : PlainComponent) where
  abbrev pub island_numbers : PlainForm → List Role
  island_numbers form = OfTimer ∷ OfTimer ∷ replicate (form_ifs form) OfSample

  abbrev pub group_numbers : ℕ → GroupKind → List Role
  group_numbers g kinds.Plain = []
  group_numbers g kinds.Comb = []
  group_numbers g (kinds.Timed n) = island_numbers (Enable g)

  abbrev mutual
    pub form_numbers : PlainForm → List Role
    form_numbers Empty = []
    form_numbers (Enable g) = group_numbers g (group_at part g).kind
    form_numbers (Seq parts) = parts_numbers parts
    form_numbers (Par arms) = arms_numbers arms
    form_numbers (If test comb a b) = numbers_of a ++ numbers_of b
    form_numbers (While test comb a) = numbers_of a
    form_numbers (Repeat zero a) = []
    form_numbers (Repeat (suc k) a) = RoundsOver ∷ numbers_of a
    form_numbers (StaticSeq length parts) = island_numbers (StaticSeq length parts)
    form_numbers (StaticPar length arms) = island_numbers (StaticPar length arms)
    form_numbers (StaticIf length test a b) = island_numbers (StaticIf length test a b)
    form_numbers (StaticRepeat length count a) = island_numbers (StaticRepeat length count a)
    form_numbers (Timed k) = []

    pub numbers_of : PlainStatement → List Role
    numbers_of (Placed form place) = form_numbers form

    pub parts_numbers : PlainStatements → List Role
    parts_numbers no_statements = []
    parts_numbers (a_statement s ss) = numbers_of s ++ parts_numbers ss

    pub arms_numbers : PlainStatements → List Role
    arms_numbers no_statements = []
    arms_numbers (a_statement s ss) = (PlaceOfArm ∷ numbers_of s) ++ arms_numbers ss

-- AN IDLE EDGE leads from the end to 0, and a timer's numbers to 0; others stay, as a register does that nothing drives
abbrev pub role_idle : Option Role → ℕ → ℕ
role_idle None v = v
role_idle (Some PlaceOfArm) v = v
role_idle (Some RoundsOver) v = v
role_idle (Some OfTimer) v = 0
role_idle (Some OfSample) v = v

abbrev pub number_idle : Instance → ℕ → ℕ → ℕ
number_idle i zero v = if v == end_of i then 0 else v
number_idle i (suc n) v = role_idle (slice_get (numbers_of (part_of i) (part_of i).control) n) v

-- by the tree: where there is no instance nothing moves
abbrev mutual
  pub number_idle_at : Instance → Path → ℕ → ℕ → ℕ
  number_idle_at (Node part cells) [] n v = number_idle (Node part cells) n v
  number_idle_at (Node part cells) (c ∷ path) n v = number_idle_below cells c path n v

  pub number_idle_below : Cells → ℕ → Path → ℕ → ℕ → ℕ
  number_idle_below no_cells c path n v = v
  number_idle_below (a_primitive row rest) zero path n v = v
  number_idle_below (a_primitive row rest) (suc c) path n v = number_idle_below rest c path n v
  number_idle_below (an_instance child rest) zero path n v = number_idle_at child path n v
  number_idle_below (an_instance child rest) (suc c) path n v = number_idle_below rest c path n v

-- an idle edge of a store, by what it makes of cells and of numbers
abbrev pub idle_by : (Path → CellState → CellState) → (Path → ℕ → ℕ → ℕ) → (x : Spot) → Holds x → Holds x
idle_by of_cell of_number (Cell path) d = of_cell path d
idle_by of_cell of_number (Number path n) v = of_number path n v
idle_by of_cell of_number (Input n) seen = seen

-- the states of the meaning in the store of an instance
abbrev pub world_by : (Path → CellState → CellState) → (Path → ℕ → ℕ → ℕ) → World Spot Holds Held State
world_by of_cell of_number = record { idle = idle_by of_cell of_number; shown = shown }

abbrev pub spot_idle : Instance → (x : Spot) → Holds x → Holds x
spot_idle i = idle_by (λ path d. idle_at i path d) (λ path n v. number_idle_at i path n v)

abbrev pub world_of : Instance → World Spot Holds Held State
world_of i = world_by (λ path d. idle_at i path d) (λ path n v. number_idle_at i path n v)

-- and of what stands at a cell
abbrev pub world_below : Cells → ℕ → World Spot Holds Held State
world_below cells c = world_by (λ path d. idle_below cells c path d) (λ path n v. number_idle_below cells c path n v)

-- NOTHING IS UNDER WAY: an idle edge leaves a cell as it is, and a number is 0
abbrev pub RestsBy : (Path → CellState → CellState) → (x : Spot) → Holds x → Type 0
RestsBy of_cell (Cell path) d = of_cell path d ≡ d
RestsBy of_cell (Number path n) v = v ≡ 0
RestsBy of_cell (Input n) seen = Unit {0}

abbrev pub Rests : Instance → (x : Spot) → Holds x → Type 0
Rests i = RestsBy (λ path d. idle_at i path d)

abbrev pub RestsBelow : Cells → ℕ → (x : Spot) → Holds x → Type 0
RestsBelow cells c = RestsBy (λ path d. idle_below cells c path d)
