use Rattle.std.proofs.Common.{◌<◌, get_or, length, sym, ap, ◌∙◌, subst, arith}
use Rattle.std.specs.Prelude.{IfSome}
use Rattle.cx_prim.specs.CellStates.{IsState}
use Rattle.cx_prim.specs.Rows.{Inputs}
use Rattle.cx_prim.specs.Table.{row_of}
use Rattle.cx_eval_cycle.specs.Passes.{cell_held}
use Rattle.cx_eval_cycle.specs.Rooms.{inputs_at}
use Rattle.cx_eval_cycle.specs.Steps.{CanStep, after_kept, after_room, stepped_with}
use Rattle.cx_eval_cycle.proofs.PassLemmas.{held_is, stepped_set}
use Rattle.cx_eval_cycle.proofs.RoomLemmas.{room_inputs}
use Rattle.cx_eval_cycle.proofs.StepLemmas.{still_fitting}
use Rattle.cx_eval_cycle.proofs.SteppingLemmas.{kept_below}
use Rattle.cx_eval_cycle.proofs.passes.step_at.Goals as goal

pub step_held-requires : goal.step_held-requires
step_held-requires c =
    let row = row_of c.in-Some.stepping.now.primitive.now in
    let below = kept_below c.args.cells.now c.args.cell c.in-Some.stepping.now c.in-Some.ensures.some in
    let long = c.requires.long in
    let count = c.requires.rooms.count in
    let inside : c.args.cell < length c.args.held.now = omega (arith, below, long) in
    let within : c.args.cell < length c.args.rooms.now = omega (arith, below, count) in
    let inputs = room_inputs c.args.rooms.now c.args.cell c.index-rooms-cell.result within ∙ sym c.deref.ensures.value in
    record {
      can = subst (λ (xs : Inputs). CanStep row xs (get_or c.args.held.now c.args.cell c.index-held-cell.result)) inputs (subst (CanStep row (inputs_at c.args.rooms.now c.args.cell)) (held_is c.args.held.now c.args.cell c.index-held-cell.result inside) (c.requires.can c.in-Some.stepping.now c.in-Some.ensures.some));
    }

pub returns-in-Some-clause-value : goal.returns-in-Some-clause-value
returns-in-Some-clause-value c =
    let row = row_of c.in-Some.stepping.now.primitive.now in
    let rooms = c.args.rooms.now in
    let cell = c.args.cell in
    let below = kept_below c.args.cells.now cell c.in-Some.stepping.now c.in-Some.ensures.some in
    let long = c.requires.long in
    let count = c.requires.rooms.count in
    let inside : cell < length c.args.held.now = omega (arith, below, long) in
    let within : cell < length rooms = omega (arith, below, count) in
    let inputs = room_inputs rooms cell c.index-rooms-cell.result within ∙ sym c.deref.ensures.value in
    stepped_set (after_room c.args.cells.now rooms) cell c.args.held.now c.step_held.new.held inside
    (c.step_held.ensures.value ∙ ap (λ (xs : Inputs). stepped_with row xs (get_or c.args.held.now c.args.cell c.index-held-cell.result)) (sym inputs)
    ∙ ap (stepped_with row (inputs_at rooms cell)) (sym (held_is c.args.held.now cell c.index-held-cell.result inside))
    ∙ sym (ap (λ k. after_kept k (inputs_at rooms cell) (cell_held c.args.held.now cell)) c.in-Some.ensures.some))

pub returns-in-Some-clause-fits : goal.returns-in-Some-clause-fits
returns-in-Some-clause-fits c =
    let stepping = c.in-Some.stepping.now in
    let below = kept_below c.args.cells.now c.args.cell stepping c.in-Some.ensures.some in
    let long = c.requires.long in
    let inside : c.args.cell < length c.args.held.now = omega (arith, below, long) in
    still_fitting c.args.cells.now c.args.held.now c.args.cell stepping c.step_held.new.held inside c.in-Some.ensures.some
    (λ d e. subst (λ o. IfSome o (IsState (row_of stepping.primitive.now).shape)) e c.step_held.ensures.fits)
