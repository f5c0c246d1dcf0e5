-- What a state stands for.
use Rattle.std.specs.Prelude.{◌≡◌, ℕ, List, [], ◌∷◌, ◌++◌, Option, Some, None, get_or, set, length, map, slice_get}
use Rattle.cx_bits.specs.BitVector.{BitVector}
use Rattle.cx_prim.specs.CellStates.{CellState, IsState}
use Rattle.cx_prim.specs.Table.{row_of}
use Rattle.cx_text.specs.declared.loading.LoadedMemory.{LoadedMemory}
use Rattle.cx_meaning.specs.declared.sights.Seen.{Seen}
use Rattle.cx_meaning.specs.declared.sights.Seen.TheVariants.{Value, Undefined}
use Rattle.cx_meaning.specs.Designs.{PlainKind, OfPrimitive, OfComponent, PlainCell, PlainComponent, PlainDesign}
use Rattle.cx_meaning.specs.Instances as meaning
use Rattle.cx_meaning.specs.Instances.{Instance, Path, part_of, paths_of, instance_at, tree_of}
use Rattle.cx_meaning.specs.Sights.{Held}
use Rattle.cx_rules.specs.Ports.{declared_width}
use Rattle.cx_state.specs.Tables.{IsNumber}
use Rattle.cx_state.specs.declared.states.InstanceState.{InstanceState}
use Rattle.cx_state.specs.declared.states.State.{State}

-- an instance: an entry for each cell, with what a primitive holds, and one for each input
pub record PlainInstance : Type 0 where
  pub cells : List (Option CellState)
  pub held : List Seen

abbrev pub plain_instance : InstanceState → PlainInstance
plain_instance i = record { cells = i.cells.items; held = i.held.items }

abbrev pub plain_state : State → List PlainInstance
plain_state s = map plain_instance s.instances.items

abbrev pub no_instance : PlainInstance
no_instance = record { cells = []; held = [] }

abbrev pub instance_state : List PlainInstance → ℕ → PlainInstance
instance_state rows n = get_or rows n no_instance

-- what cell c of instance n holds
abbrev pub cell_held : List PlainInstance → ℕ → ℕ → Option CellState
cell_held rows n c = get_or (instance_state rows n).cells c None

-- what the inputs of instance n are held as
abbrev pub inputs_held : List PlainInstance → ℕ → Held
inputs_held rows n input = get_or (instance_state rows n).held input Undefined

-- THE STATE THAT ROWS STAND FOR: each primitive cell of each instance of the tree holds what stands in its row
abbrev pub StandsFor : Instance → List PlainInstance → meaning.State → Type 0
StandsFor tree rows s =
    (n c : ℕ) (path : Path) (held : CellState) → slice_get (paths_of tree) n ≡ Some path
    → cell_held rows n c ≡ Some held → s (path ++ c ∷ []) ≡ held

-- the state of the instance at a path, and the state with another one there
abbrev pub under_path : Path → meaning.State → meaning.State
under_path path s below = s (path ++ below)

abbrev pub put_path : Path → meaning.State → meaning.State → meaning.State
put_path [] own s = own
put_path (c ∷ path) own s = meaning.put c (put_path path own (meaning.under c s)) s

-- WHAT A STATE OF A DESIGN KEEPS: each primitive cell holds a state of its row, and each input is held with its width
abbrev pub HoldsKind : PlainKind → Option CellState → Type 0
HoldsKind (OfPrimitive p) None = ⊥
HoldsKind (OfPrimitive p) (Some held) = IsState (row_of p).shape held
HoldsKind (OfComponent k) None = Unit {0}
HoldsKind (OfComponent k) (Some held) = ⊥

abbrev pub HoldCells : List PlainCell → List (Option CellState) → Type 0
HoldCells [] [] = Unit {0}
HoldCells [] (h ∷ hs) = ⊥
HoldCells (cell ∷ cells) [] = ⊥
HoldCells (cell ∷ cells) (h ∷ hs) = HoldsKind cell.kind h × HoldCells cells hs

pub record FitsPart (part : PlainComponent) (i : PlainInstance) : Type 0 where
  pub cells : HoldCells part.cells i.cells
  pub inputs : length i.held ≡ length part.inputs
  pub widths : (n : ℕ) (b : BitVector) → slice_get i.held n ≡ Some (Value b)
      → declared_width part.inputs n ≡ Some b.width

pub record IsStateOf (d : PlainDesign) (rows : List PlainInstance) : Type 0 where
  pub count : length rows ≡ length (paths_of (tree_of d))
  pub fits : (n : ℕ) (path : Path) → IsNumber d n path
      → FitsPart (part_of (instance_at (tree_of d) path)) (instance_state rows n)

-- every input is held as undefined
abbrev pub IsUnheld : List PlainInstance → Type 0
IsUnheld rows = (n input : ℕ) → inputs_held rows n input ≡ Undefined

-- one input held as something else
abbrev pub with_held : List PlainInstance → ℕ → ℕ → Seen → List PlainInstance
with_held rows n input seen =
    set rows n
    (record { cells = (instance_state rows n).cells; held = set (instance_state rows n).held input seen })

-- the words of what is loaded
abbrev pub words_in : List LoadedMemory → List (List ℕ)
words_in memories = map (λ m. m.words.items) memories
