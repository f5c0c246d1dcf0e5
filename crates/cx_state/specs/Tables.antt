-- The table of the instance tree.
use Rattle.std.specs.Prelude.{◌≡◌, ℕ, suc, ◌+◌, ◌<◌, ◌≤◌, List, [], ◌∷◌, ◌++◌, Some, get_or, length, slice_get}
use Rattle.cx_meaning.specs.Designs.{PlainDesign}
use Rattle.cx_meaning.specs.Instances.{Instance, OfInstance, Path, cell_at, cells_of, instance_at, paths_of, tree_of, part_of}
use Rattle.cx_rules.specs.Ports.{component_of}
use Rattle.cx_state.specs.declared.tables.InstanceRow.{InstanceRow}

-- the instance of this number, in pre-order, is at this path
abbrev pub IsNumber : PlainDesign → ℕ → Path → Type 0
IsNumber d n path = slice_get (paths_of (tree_of d)) n ≡ Some path

abbrev pub no_row : InstanceRow
no_row = record { component = 0; parent = 0; cell = 0; first = 0 }

abbrev pub row_at : List InstanceRow → ℕ → InstanceRow
row_at rows n = get_or rows n no_row

-- what stands for cell c of instance n
abbrev pub child_of : List InstanceRow → List ℕ → ℕ → ℕ → ℕ
child_of rows children n c = get_or children ((row_at rows n).first + c) 0

-- the path of an instance is that of the one above it, and its cell there
abbrev pub IsAbove : PlainDesign → InstanceRow → Path → Type 0
IsAbove d instance path = (above : Path) × IsNumber d instance.parent above × (path ≡ above ++ instance.cell ∷ [])

-- a row for each instance: its component, the instance above it, and the numbers of the instances at its component cells
pub record IsTable (d : PlainDesign) (rows : List InstanceRow) (children : List ℕ) : Type 0 where
  pub count : length rows ≡ length (paths_of (tree_of d))
  pub there : (n : ℕ) → n < length rows → (row_at rows n).component < length d.components
  pub component : (n : ℕ) (path : Path) → IsNumber d n path
      → instance_at (tree_of d) path ≡ component_of d (row_at rows n).component
  pub above : (n : ℕ) (path : Path) → IsNumber d (suc n) path → IsAbove d (row_at rows (suc n)) path
  pub cells : (n : ℕ) (path : Path) → IsNumber d n path
      → (row_at rows n).first + length (part_of (instance_at (tree_of d) path)).cells ≤ length children
  pub child : (n c : ℕ) (path : Path) (child : Instance) → IsNumber d n path
      → cell_at (cells_of (instance_at (tree_of d) path)) c ≡ OfInstance child
      → IsNumber d (child_of rows children n c) (path ++ c ∷ [])
