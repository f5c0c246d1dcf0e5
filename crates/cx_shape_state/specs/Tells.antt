-- What the marks of cells tell.
use Rattle.std.specs.Prelude.{◌≡◌, ℕ, ◌<◌, Bool, true, false, List, Some, length, slice_get}
use Rattle.cx_meaning.specs.Instances.{Instance, cell_count, cells_of}
use Rattle.cx_graphs.specs.Grounds.{is_grounded}
use Rattle.cx_shape_state.specs.declared.resting.Resting.{Resting}
use Rattle.cx_shape_state.specs.Waits.{waits}

-- each cell is marked where it waits for nothing that never rests
pub record AreMarks (i : Instance) (inputs : Bool) (marks : List Bool) : Type 0 where
  pub count : length marks ≡ cell_count (cells_of i)
  pub tell : (c : ℕ) → c < cell_count (cells_of i) → slice_get marks c ≡ Some (is_grounded (waits i inputs) c)

-- the marks are those of an instance
pub record Tells (i : Instance) (r : Resting) : Type 0 where
  pub cells : AreMarks i true r.cells.items
  pub inner_cells : AreMarks i false r.inner_cells.items
