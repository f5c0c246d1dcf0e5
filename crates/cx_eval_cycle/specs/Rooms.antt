-- Room for what is found at the ports of cells.
use Rattle.std.specs.Prelude.{◌≡◌, ℕ, List, [], Option, Some, None, length, slice_get}
use Rattle.cx_prim.specs.declared.ports.PortRow.{PortRow}
use Rattle.cx_prim.specs.Rows.{FitsPorts, Inputs}
use Rattle.cx_prim.specs.Table.{row_of}
use Rattle.cx_eval_cycle.specs.declared.rooms.CellRoom.{CellRoom}
use Rattle.cx_eval_cycle.specs.declared.stepping.SteppingCell.{SteppingCell}
use Rattle.cx_eval_cycle.specs.Stepping.{kept_at}

abbrev pub ports_of : Option SteppingCell → List PortRow
ports_of None = []
ports_of (Some stepping) = (row_of stepping.primitive.now).ports

-- for these ports: what stands in it is as wide as they are, whatever was looked at
abbrev pub HasRoom : List PortRow → CellRoom → Type 0
HasRoom ports room = FitsPorts ports room.inputs.items

-- for the ports of each cell that can step
pub record HaveRooms (kept : List (Option SteppingCell)) (rooms : List CellRoom) : Type 0 where
  pub count : length rooms ≡ length kept
  pub each : (c : ℕ) (room : CellRoom) → slice_get rooms c ≡ Some room → HasRoom (ports_of (kept_at kept c)) room

-- what stands at the ports of a cell
abbrev pub inputs_of : Option CellRoom → Inputs
inputs_of None = []
inputs_of (Some room) = room.inputs.items

abbrev pub inputs_at : List CellRoom → ℕ → Inputs
inputs_at rooms c = inputs_of (slice_get rooms c)
