-- Cells of an instance that are marked, and the list of them.
use Rattle.std.specs.Prelude.{◌≡◌, ◌≤◌, ℕ, Bool, false, nat_eq, cond, List, get_or, length}
use Rattle.std.specs.List.{count_by}
use Rattle.cx_meaning.specs.Designs.{PlainDesign}
use Rattle.cx_meaning.specs.Instances.{Path, part_of, instance_at, tree_of}
use Rattle.cx_state.specs.Tables.{IsNumber}

abbrev pub is_marked : List Bool → ℕ → Bool
is_marked marks c = get_or marks c false

-- how many marks are set
abbrev pub set_count : List Bool → ℕ
set_count marks = count_by (λ m. m) marks

-- each marked cell is listed once, and no other
pub record Lists (marks : List Bool) (cells : List ℕ) : Type 0 where
  pub once : (c : ℕ) → count_by (λ k. nat_eq k c) cells ≡ cond (is_marked marks c) 1 0
  pub count : length cells ≡ set_count marks

-- so many are no fewer than the cells of instance n
abbrev pub IsRoomFor : PlainDesign → ℕ → ℕ → Type 0
IsRoomFor d n count =
    (path : Path) → IsNumber d n path → length (part_of (instance_at (tree_of d) path)).cells ≤ count

-- a mark for each cell of instance n
abbrev pub HasMarks : PlainDesign → ℕ → List Bool → Type 0
HasMarks d n marks = IsRoomFor d n (length marks)
