-- A cycle of an instance as it is found: its first fault on demand, and the steps of its cells with what was found at their ports.
use Rattle.std.specs.Prelude.{◌≡◌, ℕ, List, Option, None, length, set}
use Rattle.cx_prim.specs.CellStates.{CellState}
use Rattle.cx_meaning.specs.Designs.{PlainCell}
use Rattle.cx_meaning.specs.Instances.{Set}
use Rattle.cx_state.specs.States.{PlainInstance, instance_state}
use Rattle.cx_eval_network.specs.Networks.{Asked, seen_at}
use Rattle.cx_eval_cycle.specs.declared.passes.CellFault.{CellFault}
use Rattle.cx_eval_cycle.specs.declared.rooms.CellRoom.{CellRoom}
use Rattle.cx_eval_cycle.specs.declared.stepping.SteppingCell.{SteppingCell}
use Rattle.cx_eval_cycle.specs.Passes.{AreStepped, fault_of, first_among, listed_in}
use Rattle.cx_eval_cycle.specs.Steps.{AreGathered, HoldFitting, after_room}

-- the first fault among the listed cells of the asked instance, by what its ports are seen as; where there is none, the rooms of
-- these cells have what stands at their ports
pub record IsFirst (a : Asked) (cells : List PlainCell) (kept : List (Option SteppingCell))
    (held : List (Option CellState)) (listed : List ℕ) (rooms : List CellRoom)
    (first : Option CellFault) : Type 0 where
  pub value : first ≡ first_among (fault_of (seen_at a a.instance) cells held) listed
  pub gathered : first ≡ None → AreGathered (listed_in listed) (seen_at a a.instance) kept held rooms

-- the cells of one instance hold something else, and all else is as before
abbrev pub with_cells : List PlainInstance → ℕ → List (Option CellState) → List PlainInstance
with_cells rows n cells = set rows n (record { cells = cells; held = (instance_state rows n).held })

-- they have made their steps with what stands in their rooms
pub record HaveStepped (kept : List (Option SteppingCell)) (rooms : List CellRoom) (n : ℕ) (listed : Set)
    (old new : List PlainInstance) : Type 0 where
  pub cells : List (Option CellState)
  pub rows : new ≡ with_cells old n cells
  pub steps : AreStepped listed (after_room kept rooms) (instance_state old n).cells cells
  pub fits : HoldFitting kept cells
  pub long : length cells ≡ length (instance_state old n).cells
