-- How a cell is looked at in a cycle.
use Rattle.std.specs.Prelude.{Option, Some, None, Result, Ok, Err}
use Rattle.cx_prim.specs.CellStates.{CellState}
use Rattle.cx_prim.specs.Rows.{Inputs, Row}
use Rattle.cx_meaning.specs.Cycles.{Outcome, Next, Stops}
use Rattle.cx_eval_cycle.specs.declared.looking.CellStop.{CellStop}

-- what a look at a cell tells, where so much stands at its ports
abbrev pub told : Row → CellState → Result (Unit {0}) CellStop → Inputs → Outcome
told row state (Ok done) inputs = Next (row.next state inputs)
told row state (Err stop) inputs = Stops stop.kind stop.port

-- the port at which a cell stops, if it does
abbrev pub stop_in : Outcome → Option CellStop
stop_in (Next after) = None
stop_in (Stops kind port) = Some (record { kind = kind; port = port })
