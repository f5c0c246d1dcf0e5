use Rattle.std.proofs.Common.{◌≡◌, ◌<◌, ℕ, length, get_or, map, sym, ap, ◌∙◌, subst, arith}
use Rattle.std.proofs.lemmas.List.{get_or-map, length-map}
use Rattle.cx_meaning.specs.Designs.{PlainCell}
use Rattle.cx_design.specs.PlainForms.{plain_cell, plain_kind}
use Rattle.cx_state.specs.States.{HoldsKind}
use Rattle.cx_turns.specs.Rests.{kind_rested}
use Rattle.cx_turns.proofs.RestLemmas.{none_listed, held_at, cells_next}
use Rattle.cx_state.proofs.StatesLemmas.{held_long}
use Rattle.std.proofs.lemmas.Option.{slice_get-get_or}
use Rattle.cx_turns.proofs.rest.rest_cells.Goals as goal

pub loop-cell-init : goal.loop-cell-init
loop-cell-init c = (sym (none_listed (map plain_cell c.args.cells.now) c.args.held.now (held_long (map plain_cell c.args.cells.now) c.args.held.now c.requires.fits)), c.requires.fits)

pub bounds-held-number : goal.bounds-held-number
bounds-held-number c =
    let count : length c.loop-cell.held ≡ length c.args.cells.now = held_long (map plain_cell c.args.cells.now) c.loop-cell.held c.loop-cell.invariant.1 ∙ length-map c.args.cells.now plain_cell in
    let inside : get_or c.args.listed.now c.loop-cell.cell-index 0 < length c.args.cells.now = c.requires.within c.loop-cell.cell-index 0 c.loop-cell-test.true in
    omega (arith, count, inside)

pub rest_cell-requires : goal.rest_cell-requires
rest_cell-requires c =
    let number : ℕ = get_or c.args.listed.now c.loop-cell.cell-index 0 in
    let inside : number < length c.args.cells.now = c.requires.within c.loop-cell.cell-index 0 c.loop-cell-test.true in
    let within : number < length (map plain_cell c.args.cells.now) = subst (λ m. number < m) (sym (length-map c.args.cells.now plain_cell)) inside in
    let cell : get_or (map plain_cell c.args.cells.now) number (plain_cell c.index-cells-number.result) ≡ plain_cell c.index-cells-number.result =
    get_or-map plain_cell c.args.cells.now number c.index-cells-number.result (plain_cell c.index-cells-number.result) inside ∙ ap plain_cell (sym c.index-cells-number.is) in
    record {
      fits = subst (λ (x : PlainCell). HoldsKind x.kind (get_or c.loop-cell.held number c.index-held-number.result)) cell
          (held_at (map plain_cell c.args.cells.now) c.loop-cell.held number (plain_cell c.index-cells-number.result) c.index-held-number.result c.loop-cell.invariant.1 within);
    }

pub loop-cell-preserved : goal.loop-cell-preserved
loop-cell-preserved c =
    let number : ℕ = get_or c.args.listed.now c.loop-cell.cell-index 0 in
    let inside : number < length c.args.cells.now = c.requires.within c.loop-cell.cell-index 0 c.loop-cell-test.true in
    let within : number < length (map plain_cell c.args.cells.now) = subst (λ m. number < m) (sym (length-map c.args.cells.now plain_cell)) inside in
    let cell : get_or (map plain_cell c.args.cells.now) number (plain_cell c.index-cells-number.result) ≡ plain_cell c.index-cells-number.result =
    get_or-map plain_cell c.args.cells.now number c.index-cells-number.result (plain_cell c.index-cells-number.result) inside ∙ ap plain_cell (sym c.index-cells-number.is) in
    cells_next (map plain_cell c.args.cells.now) c.args.listed.now c.args.held.now c.loop-cell.held c.loop-cell.cell-index number (plain_cell c.index-cells-number.result) c.index-held-number.result c.rest_cell.new.held c.requires.ascending
    (slice_get-get_or c.args.listed.now c.loop-cell.cell-index 0 c.loop-cell-test.true) within (held_long (map plain_cell c.args.cells.now) c.args.held.now c.requires.fits) c.loop-cell.invariant.0 c.loop-cell.invariant.1 c.index-held-number.is
    (c.rest_cell.ensures.value ∙ ap (λ o. kind_rested (plain_kind c.index-cells-number.result.kind) o) (sym c.index-held-number.is) ∙ ap (λ (x : PlainCell). kind_rested x.kind c.index-held-number.result) (sym cell))
    (subst (λ (x : PlainCell). HoldsKind x.kind c.rest_cell.new.held) (sym cell) c.rest_cell.ensures.fits)
