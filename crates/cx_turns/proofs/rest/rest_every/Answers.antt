use Rattle.std.proofs.Common.{◌≡◌, ◌<◌, ◌≤◌, ℕ, length, get_or, map, sym, ap, ◌∙◌, subst, arith}
use Rattle.std.proofs.lemmas.List.{get_or-map, length-map}
use Rattle.cx_meaning.specs.Designs.{PlainCell}
use Rattle.cx_design.specs.PlainForms.{plain_cell, plain_kind}
use Rattle.cx_state.specs.States.{HoldsKind}
use Rattle.cx_turns.specs.Rests.{kind_rested}
use Rattle.cx_turns.proofs.EveryLemmas.{all_first, next_rested}
use Rattle.cx_turns.proofs.RestLemmas.{none_listed, held_at}
use Rattle.cx_state.proofs.StatesLemmas.{held_long}
use Rattle.cx_turns.proofs.rest.rest_every.Goals as goal

pub loop-number-init : goal.loop-number-init
loop-number-init c = (sym (none_listed (map plain_cell c.args.cells.now) c.args.held.now (held_long (map plain_cell c.args.cells.now) c.args.held.now c.requires.fits)), c.requires.fits)

pub bounds-held-number : goal.bounds-held-number
bounds-held-number c =
    let count : length c.loop-number.held ≡ length c.args.cells.now = held_long (map plain_cell c.args.cells.now) c.loop-number.held c.loop-number.invariant.1 ∙ length-map c.args.cells.now plain_cell in
    omega (arith, count, c.loop-number-test.true)

pub rest_cell-requires : goal.rest_cell-requires
rest_cell-requires c =
    let number : ℕ = c.loop-number.number in
    let within : number < length (map plain_cell c.args.cells.now) = subst (λ m. number < m) (sym (length-map c.args.cells.now plain_cell)) c.loop-number-test.true in
    let cell : get_or (map plain_cell c.args.cells.now) number (plain_cell c.index-cells-number.result) ≡ plain_cell c.index-cells-number.result =
    get_or-map plain_cell c.args.cells.now number c.index-cells-number.result (plain_cell c.index-cells-number.result) c.loop-number-test.true ∙ ap plain_cell (sym c.index-cells-number.is) in
    record {
      fits = subst (λ (x : PlainCell). HoldsKind x.kind (get_or c.loop-number.held number c.index-held-number.result)) cell
          (held_at (map plain_cell c.args.cells.now) c.loop-number.held number (plain_cell c.index-cells-number.result) c.index-held-number.result c.loop-number.invariant.1 within);
    }

pub loop-number-preserved : goal.loop-number-preserved
loop-number-preserved c =
    let number : ℕ = c.loop-number.number in
    let within : number < length (map plain_cell c.args.cells.now) = subst (λ m. number < m) (sym (length-map c.args.cells.now plain_cell)) c.loop-number-test.true in
    let cell : get_or (map plain_cell c.args.cells.now) number (plain_cell c.index-cells-number.result) ≡ plain_cell c.index-cells-number.result =
    get_or-map plain_cell c.args.cells.now number c.index-cells-number.result (plain_cell c.index-cells-number.result) c.loop-number-test.true ∙ ap plain_cell (sym c.index-cells-number.is) in
    next_rested (map plain_cell c.args.cells.now) c.args.held.now c.loop-number.held number (plain_cell c.index-cells-number.result) c.index-held-number.result c.rest_cell.new.held within
    (held_long (map plain_cell c.args.cells.now) c.args.held.now c.requires.fits) c.loop-number.invariant.0 c.loop-number.invariant.1 c.index-held-number.is
    (c.rest_cell.ensures.value ∙ ap (λ o. kind_rested (plain_kind c.index-cells-number.result.kind) o) (sym c.index-held-number.is) ∙ ap (λ (x : PlainCell). kind_rested x.kind c.index-held-number.result) (sym cell))
    (subst (λ (x : PlainCell). HoldsKind x.kind c.rest_cell.new.held) (sym cell) c.rest_cell.ensures.fits)

pub returns-clause-value : goal.returns-clause-value
returns-clause-value c =
    let count : length (map plain_cell c.args.cells.now) ≡ length c.args.cells.now = length-map c.args.cells.now plain_cell in
    let all : length (map plain_cell c.args.cells.now) ≤ c.loop-number.number = omega (arith, count, c.loop-number-test.false) in
    c.loop-number.invariant.0 ∙ all_first c.loop-number.number (map plain_cell c.args.cells.now) c.args.held.now all
