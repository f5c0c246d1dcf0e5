-- Where an instance keeps its values: its cells, the numbers in which control stands, and its inputs.
use Rattle.std.specs.Prelude.{ℕ, nat_lt, Bool, false, [], ◌∷◌, if◌then◌else◌}
use Rattle.cx_prim.specs.CellStates.{CellState}
use Rattle.cx_meaning.specs.declared.sights.Seen.{Seen}
use Rattle.cx_meaning.specs.declared.sights.Seen.TheVariants.{Undefined}
use Rattle.cx_meaning.specs.Instances.{Path, State, Set}
use Rattle.cx_meaning.specs.Sights.{Held}
use Rattle.cx_lockstep.specs.Worlds.{Store}

pub data Spot : Type 0 where
  -- a cell, by its path
  Cell : (path : Path) → Spot
  -- a number in which the control of the instance at a path stands
  Number : (path : Path) (n : ℕ) → Spot
  -- an input of the instance
  Input : (n : ℕ) → Spot

abbrev pub Holds : Spot → Type 0
Holds (Cell path) = CellState
Holds (Number path n) = ℕ
Holds (Input n) = Seen

abbrev pub Kept : Type 0
Kept = Store Spot Holds

abbrev pub cells_in : Kept → State
cells_in s path = s (Cell path)

abbrev pub held_in : Kept → Held
held_in s n = s (Input n)

-- a state of the meaning, in which no control is under way
abbrev pub shown : Held → State → Kept
shown held s (Cell path) = s path
shown held s (Number path n) = 0
shown held s (Input n) = held n

-- inputs that are not there are held as nothing
abbrev pub own_input : ℕ → Held → Held
own_input count held n = if nat_lt n count then held n else Undefined

-- what stands in the store of the child at a cell, with these inputs
abbrev pub pull : ℕ → Held → Kept → Kept
pull c held s (Cell path) = s (Cell (c ∷ path))
pull c held s (Number path n) = s (Number (c ∷ path) n)
pull c held s (Input n) = held n

-- what is at and below the cells of a set, with the numbers there
abbrev pub spots_of : Set → Spot → Bool
spots_of set (Cell []) = false
spots_of set (Cell (c ∷ path)) = set c
spots_of set (Number [] n) = false
spots_of set (Number (c ∷ path) n) = set c
spots_of set (Input n) = false

-- the same where the set is a fact, and all inputs
abbrev pub reads_spot : (ℕ → Type 0) → Spot → Type 0
reads_spot set (Cell []) = ⊥
reads_spot set (Cell (c ∷ path)) = set c
reads_spot set (Number [] n) = ⊥
reads_spot set (Number (c ∷ path) n) = set c
reads_spot set (Input n) = Unit {0}
