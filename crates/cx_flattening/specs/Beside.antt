-- The flat instance of a tree in one cycle: in a state of the same cells, where what is done in the tree acts.
use Rattle.std.specs.Prelude.{◌≡◌, ℕ, ◌<◌, List, Option, Some, None, length}
use Rattle.cx_meaning.specs.Instances.{Instance, part_of, cells_of, State}
use Rattle.cx_meaning.specs.Active.{Active}
use Rattle.cx_flattening.specs.Deeds.{Deed}
use Rattle.cx_flattening.specs.Flattened.{Kids, kid_at, kept_at, flat_kids}
use Rattle.cx_flattening.specs.Acting.{ActsAs}
use Rattle.cx_flattening.specs.Embedded.{IsFlattened, Stands}
use Rattle.cx_flattening.specs.Fair.{AllFair}
use Rattle.cx_flattening.specs.Seeing.{NoCircle}

-- a cell that is kept, where it stands
abbrev pub kept_done : Kids → Option ℕ → Option ℕ
kept_done kids None = None
kept_done kids (Some c) = Some (kept_at kids c)

-- the cell of a call whose done is 1 is one that is kept
abbrev pub IsKeptDone : Instance → Option ℕ → Type 0
IsKeptDone i done =
    (c : ℕ) → done ≡ Some c → (c < length (part_of i).cells) × (kid_at (flat_kids (cells_of i)) c ≡ None)

-- WHAT IS ASKED of a tree and its flat instance: flat acts under `more` as the tree does under act and the deeds
pub record IsBeside (i flat : Instance) (act more : Active) (deeds : List Deed) (s z : State) : Type 0 where
  pub flattened : IsFlattened i flat
  pub fair : AllFair i
  pub stands : Stands i 0 s z
  pub acts : ActsAs i act deeds more
  pub done : more.done_cell ≡ kept_done (flat_kids (cells_of i)) act.done_cell
  pub kept : IsKeptDone i act.done_cell
  pub no_circle : NoCircle i act deeds
