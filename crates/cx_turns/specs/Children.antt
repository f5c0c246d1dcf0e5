-- The children of an instance: their numbers, their control, and their inputs as they are held in a call.
use Rattle.std.specs.Prelude.{◌≡◌, ◌≢◌, ℕ, ◌<◌, List, [], ◌∷◌, ◌++◌, length}
use Rattle.cx_meaning.specs.Designs.{PlainDesign, PlainStatement}
use Rattle.cx_meaning.specs.Instances.{Instance, OfInstance, Path, State, cell_at, cells_of, part_of, instance_at, tree_of}
use Rattle.cx_meaning.specs.Calls.{inputs_of_call}
use Rattle.cx_state.specs.Tables.{IsNumber}
use Rattle.cx_state.specs.States.{PlainInstance, inputs_held, StandsFor, under_path}

-- cell c of instance n is of a component
abbrev pub IsPart : PlainDesign → ℕ → ℕ → Type 0
IsPart d n c =
    (path : Path) → IsNumber d n path
    → (child : Instance) × (cell_at (cells_of (instance_at (tree_of d) path)) c ≡ OfInstance child)

-- the instance at cell c of instance n has this number
abbrev pub HasChild : PlainDesign → ℕ → ℕ → ℕ → Type 0
HasChild d n c number = (path : Path) → IsNumber d n path → IsNumber d number (path ++ c ∷ [])

-- the control of instance n
abbrev pub HasControl : PlainDesign → ℕ → PlainStatement → Type 0
HasControl d n control = (path : Path) → IsNumber d n path → control ≡ (part_of (instance_at (tree_of d) path)).control

-- an input of the component of instance n
abbrev pub IsInputOf : PlainDesign → ℕ → ℕ → Type 0
IsInputOf d n input = (path : Path) → IsNumber d n path → input < length (part_of (instance_at (tree_of d) path)).inputs

-- one input of the child at a cell is held as it is seen under the group that calls it, and nothing else changes
pub record HoldsInput (d : PlainDesign) (old new : List PlainInstance) (n g c child k : ℕ) : Type 0 where
  pub stands : (s : State) → StandsFor (tree_of d) old s → StandsFor (tree_of d) new s
  pub input : (path : Path) (s : State) → IsNumber d n path → StandsFor (tree_of d) old s
      → inputs_held new child k ≡
      inputs_of_call (instance_at (tree_of d) path) (inputs_held old n) g c (under_path path s) k
  pub others : (m other : ℕ) → (m ≡ child → other ≡ k → ⊥) → inputs_held new m other ≡ inputs_held old m other

-- so are its first ones
pub record HoldsFirst (d : PlainDesign) (old new : List PlainInstance) (n g c child count : ℕ) : Type 0 where
  pub stands : (s : State) → StandsFor (tree_of d) old s → StandsFor (tree_of d) new s
  pub inputs : (path : Path) (s : State) (input : ℕ) → IsNumber d n path → StandsFor (tree_of d) old s → input < count
      → inputs_held new child input ≡
      inputs_of_call (instance_at (tree_of d) path) (inputs_held old n) g c (under_path path s) input
  pub others : (m input : ℕ) → m ≢ child → inputs_held new m input ≡ inputs_held old m input

-- the inputs of the child at a cell are held as they are seen under the group that calls it, and nothing else changes
pub record HoldsCall (d : PlainDesign) (old new : List PlainInstance) (n g c child : ℕ) : Type 0 where
  pub stands : (s : State) → StandsFor (tree_of d) old s → StandsFor (tree_of d) new s
  pub inputs : (path : Path) (s : State) (input : ℕ) → IsNumber d n path → StandsFor (tree_of d) old s
      → input < length (part_of (instance_at (tree_of d) (path ++ c ∷ []))).inputs
      → inputs_held new child input ≡
      inputs_of_call (instance_at (tree_of d) path) (inputs_held old n) g c (under_path path s) input
  pub others : (m input : ℕ) → m ≢ child → inputs_held new m input ≡ inputs_held old m input
