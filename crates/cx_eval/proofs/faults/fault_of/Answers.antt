use Rattle.std.proofs.Common.{List, Option, Some, None, get_or, sym, ap, ◌∙◌, arith}
use Rattle.cx_prim.specs.CellStates.{CellState}
use Rattle.cx_prim.specs.Table.{row_of}
use Rattle.cx_eval_cycle.specs.Passes.{cell_held}
use Rattle.cx_eval_cycle.specs.Stops.{stop_in}
use Rattle.cx_eval_cycle.proofs.PassLemmas.{fault_is}
use Rattle.cx_eval.specs.Looked.{own_cells, own_held, seen_look}
use Rattle.cx_eval.proofs.FaultLemmas.{empty_faults, empty_gathered, idle_faults, idle_gathered}
use Rattle.cx_eval.proofs.OwnLemmas.{own_state}
use Rattle.cx_eval.proofs.SteppingLemmas.{first_below, gathered_after, has_room, number_few, others_after, own_of, room_below, rooms_after, stands_first}
use Rattle.cx_eval.proofs.UsingLemmas.{shown_from}
use Rattle.cx_eval.proofs.faults.fault_of.Goals as goal

pub returns-in_default-clause-value : goal.returns-in_default-clause-value
returns-in_default-clause-value c =
    let a = c.args.asking.now in
    idle_faults (seen_look a) (own_cells a) (own_held a) c.args.cell c.args.cells.now c.requires.cells c.in_default.ensures.none

pub returns-in_default-clause-gathered : goal.returns-in_default-clause-gathered
returns-in_default-clause-gathered c =
    let a = c.args.asking.now in
    idle_gathered (seen_look a) (own_cells a) (own_held a) c.args.cell c.args.cells.now c.args.rooms.now c.in_default.ensures.none

pub returns-in_default-held_at-clause-value : goal.returns-in_default-held_at-clause-value
returns-in_default-held_at-clause-value c =
    let a = c.args.asking.now in
    empty_faults (seen_look a) (own_cells a) (own_held a) c.args.cell (ap (λ (held : List (Option CellState)). cell_held held c.args.cell) (sym c.requires.held) ∙ c.in_default-held_at.ensures.none)

pub returns-in_default-held_at-clause-gathered : goal.returns-in_default-held_at-clause-gathered
returns-in_default-held_at-clause-gathered c =
    let a = c.args.asking.now in
    empty_gathered (seen_look a) (own_cells a) (own_held a) c.args.cell c.args.cells.now c.args.rooms.now (ap (λ (held : List (Option CellState)). cell_held held c.args.cell) (sym c.requires.held) ∙ c.in_default-held_at.ensures.none)

pub overflow_cast-number : goal.overflow_cast-number
overflow_cast-number c =
    let few = number_few c.args.asking.now c.requires.can c.args.cells.now c.requires.cells c.args.cell c.in-Some.stepping.now c.in-Some.ensures.some in
    omega (arith, few)

pub bounds-rooms-cell : goal.bounds-rooms-cell
bounds-rooms-cell c = room_below c.args.asking.now c.requires.can c.args.cells.now c.requires.cells c.args.cell c.in-Some.stepping.now c.in-Some.ensures.some c.args.rooms.now c.requires.rooms

pub bounds-firsts-cell : goal.bounds-firsts-cell
bounds-firsts-cell c = first_below c.args.asking.now c.requires.can c.args.cells.now c.requires.cells c.args.cell c.in-Some.stepping.now c.in-Some.ensures.some c.args.firsts.now c.requires.firsts

pub look_in-requires-clause-nodes : goal.look_in-requires-clause-nodes
look_in-requires-clause-nodes c =
    (stands_first c.args.asking.now c.requires.can c.args.cells.now c.requires.cells c.args.cell c.in-Some.stepping.now c.in-Some.ensures.some c.args.firsts.now c.requires.firsts).nodes

pub look_in-requires-clause-sources : goal.look_in-requires-clause-sources
look_in-requires-clause-sources c =
    let a = c.args.asking.now in
    let stepping = c.in-Some.stepping.now in
    let stand = stands_first a c.requires.can c.args.cells.now c.requires.cells c.args.cell stepping c.in-Some.ensures.some c.args.firsts.now c.requires.firsts in
    shown_from a c.args.cell (get_or c.args.firsts.now c.args.cell 0) (row_of stepping.primitive.now).ports c.args.sources stand c.requires.sources

pub look_in-requires-clause-stepping : goal.look_in-requires-clause-stepping
look_in-requires-clause-stepping c = (own_of c.args.asking.now c.requires.can c.args.cells.now c.requires.cells c.args.cell c.in-Some.stepping.now c.in-Some.ensures.some).stepping_is

pub look_in-requires-clause-state : goal.look_in-requires-clause-state
look_in-requires-clause-state c =
    let a = c.args.asking.now in
    let stepping = c.in-Some.stepping.now in
    let kind = (own_of a c.requires.can c.args.cells.now c.requires.cells c.args.cell stepping c.in-Some.ensures.some).primitive in
    let holds = ap (λ (held : List (Option CellState)). cell_held held c.args.cell) (sym c.requires.held) ∙ c.in-Some-held_at.ensures.some in
    own_state a c.requires.can c.args.cell stepping.primitive.now c.in-Some-held_at.state.now kind holds

pub look_in-requires-clause-room : goal.look_in-requires-clause-room
look_in-requires-clause-room c = has_room c.args.asking.now c.requires.can c.args.cells.now c.requires.cells c.args.cell c.in-Some.stepping.now c.in-Some.ensures.some c.args.rooms.now c.requires.rooms c.index-rooms-cell.result

pub returns-in-Ok : goal.returns-in-Ok
returns-in-Ok c =
    let a = c.args.asking.now in
    let stepping = c.in-Some.stepping.now in
    let state = c.in-Some-held_at.state.now in
    let room = c.look_in.new.room in
    let kind = (own_of a c.requires.can c.args.cells.now c.requires.cells c.args.cell stepping c.in-Some.ensures.some).primitive in
    let holds = ap (λ (held : List (Option CellState)). cell_held held c.args.cell) (sym c.requires.held) ∙ c.in-Some-held_at.ensures.some in
    let stand = stands_first a c.requires.can c.args.cells.now c.requires.cells c.args.cell stepping c.in-Some.ensures.some c.args.firsts.now c.requires.firsts in
    record {
      value = fault_is (seen_look a) (own_cells a) c.args.cell stepping.primitive.now (own_held a) state None kind holds (ap stop_in (c.in-Ok.ensures.value c.args.cell stand));
      ready = c.look_in.ensures.ready;
      rooms = rooms_after a c.requires.can c.args.cells.now c.requires.cells c.args.cell stepping c.in-Some.ensures.some c.args.rooms.now c.requires.rooms room c.look_in.ensures.room;
      gathered =
          gathered_after a c.requires.can c.args.cells.now c.requires.cells c.args.cell stepping c.in-Some.ensures.some c.args.rooms.now c.requires.rooms room state holds
          (record { outcome = c.in-Ok.ensures.value c.args.cell stand; fits = c.look_in.ensures.room; looked_at = c.in-Ok.ensures.looked_at });
      others = others_after a c.requires.can c.args.cells.now c.requires.cells c.args.cell stepping c.in-Some.ensures.some c.args.rooms.now c.requires.rooms room;
    }

pub returns-in-Err : goal.returns-in-Err
returns-in-Err c =
    let a = c.args.asking.now in
    let stepping = c.in-Some.stepping.now in
    let state = c.in-Some-held_at.state.now in
    let room = c.look_in.new.room in
    let kind = (own_of a c.requires.can c.args.cells.now c.requires.cells c.args.cell stepping c.in-Some.ensures.some).primitive in
    let holds = ap (λ (held : List (Option CellState)). cell_held held c.args.cell) (sym c.requires.held) ∙ c.in-Some-held_at.ensures.some in
    let stand = stands_first a c.requires.can c.args.cells.now c.requires.cells c.args.cell stepping c.in-Some.ensures.some c.args.firsts.now c.requires.firsts in
    record {
      value = fault_is (seen_look a) (own_cells a) c.args.cell stepping.primitive.now (own_held a) state (Some c.in-Err.stop) kind holds (ap stop_in (c.in-Err.ensures.value c.args.cell stand));
      ready = c.look_in.ensures.ready;
      rooms = rooms_after a c.requires.can c.args.cells.now c.requires.cells c.args.cell stepping c.in-Some.ensures.some c.args.rooms.now c.requires.rooms room c.look_in.ensures.room;
      gathered = tt;
      others = others_after a c.requires.can c.args.cells.now c.requires.cells c.args.cell stepping c.in-Some.ensures.some c.args.rooms.now c.requires.rooms room;
    }
