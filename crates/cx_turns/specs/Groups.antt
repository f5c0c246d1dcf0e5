-- The groups of an instance, and lists of cells.
use Rattle.std.specs.Prelude.{◌≡◌, ℕ, ◌<◌, All, List, Option, length}
use Rattle.cx_meaning.specs.Designs.{PlainComponent, PlainDesign}
use Rattle.cx_meaning.specs.Instances.{Instance, Path, part_of, instance_at, tree_of, Set}
use Rattle.cx_meaning.specs.Islands.{group_length}
use Rattle.cx_meaning.specs.Control.{group_drives}
use Rattle.cx_state.specs.Tables.{IsNumber}
use Rattle.cx_eval_cycle.specs.Passes.{listed_in}
use Rattle.cx_turns.specs.declared.tables.GroupRow.{GroupRow}
use Rattle.cx_turns.specs.GroupRows.{IsGroup}

-- a group of instance n
abbrev pub IsGroupOf : PlainDesign → ℕ → ℕ → Type 0
IsGroupOf d n g = (path : Path) → IsNumber d n path → g < length (part_of (instance_at (tree_of d) path)).groups

-- the cells that are listed are those that group g of instance n drives
abbrev pub ListGroup : PlainDesign → ℕ → ℕ → List ℕ → Type 0
ListGroup d n g cells =
    (path : Path) (c : ℕ) → IsNumber d n path
    → listed_in cells c ≡ group_drives (part_of (instance_at (tree_of d) path)) g c

-- the listed cells are those that the component of instance n drives so
abbrev pub ListDriven : PlainDesign → ℕ → List ℕ → (PlainComponent → Set) → Type 0
ListDriven d n cells driven =
    (path : Path) (c : ℕ) → IsNumber d n path
    → listed_in cells c ≡ driven (part_of (instance_at (tree_of d) path)) c

-- the listed cells are cells of instance n
abbrev pub ListWithin : PlainDesign → ℕ → List ℕ → Type 0
ListWithin d n cells =
    (path : Path) → IsNumber d n path
    → All (λ c. c < length (part_of (instance_at (tree_of d) path)).cells) cells

-- what is known of group g in instance n
abbrev pub IsGroupRow : PlainDesign → ℕ → ℕ → GroupRow → Type 0
IsGroupRow d n g row = (path : Path) → IsNumber d n path → IsGroup (instance_at (tree_of d) path) g row

-- the cycles of group g of instance n, if it is static
abbrev pub HasLength : PlainDesign → ℕ → ℕ → Option ℕ → Type 0
HasLength d n g length =
    (path : Path) → IsNumber d n path → length ≡ group_length (part_of (instance_at (tree_of d) path)) g

abbrev pub Driving : Type 0
Driving = Instance → Set

abbrev pub group_driving : ℕ → Driving
group_driving g i = group_drives (part_of i) g
