-- Idle edges of cells of an instance, and of all that is below some of its children.
use Rattle.std.specs.Prelude.{ℕ, ◌<◌, ◌||◌, nat_eq, List, [], ◌∷◌, length, if◌then◌else◌}
use Rattle.cx_meaning.specs.Designs.{PlainDesign}
use Rattle.cx_meaning.specs.Instances.{Instance, Path, State, Set, part_of, idle, instance_at, tree_of}
use Rattle.cx_state.specs.Tables.{IsNumber}
use Rattle.cx_state.specs.States.{PlainInstance, StandsFor, under_path, put_path}
use Rattle.cx_eval.specs.Evaluated.{HeldAlike}

-- the cells of a set have made their idle edges, and so has all that is below the children of another
abbrev pub deep : Set → Set → Instance → State → State
deep below top i s [] = s []
deep below top i s (c ∷ []) = if top c then idle i s (c ∷ []) else s (c ∷ [])
deep below top i s (c ∷ e ∷ path) = if below c then idle i s (c ∷ e ∷ path) else s (c ∷ e ∷ path)

abbrev pub with_one : ℕ → Set → Set
with_one k set c = nat_eq k c || set c

-- the rows of instance n have done so
pub record IsDeep (d : PlainDesign) (old new : List PlainInstance) (n : ℕ) (below top : Set) : Type 0 where
  pub stands : (path : Path) (s : State) → IsNumber d n path → StandsFor (tree_of d) old s
      → StandsFor (tree_of d) new
      (put_path path (deep below top (instance_at (tree_of d) path) (under_path path s)) s)
  pub held : HeldAlike old new

-- a cell of instance n
abbrev pub IsCellOf : PlainDesign → ℕ → ℕ → Type 0
IsCellOf d n c = (path : Path) → IsNumber d n path → c < length (part_of (instance_at (tree_of d) path)).cells
