use Rattle.std.proofs.Common.{◌≡◌, ◌∷◌, ◌+◌, [], ◌∙◌, max, drop, map, ap, arith}
use Rattle.std.proofs.lemmas.List.{drop_all}
use Rattle.cx_design.specs.PlainForms.{plain_cell, plain_kind}
use Rattle.cx_fsm.specs.Rounds as rounds
use Rattle.cx_fsm.proofs.RoundLemmas.{above_part, above_primitive}
use Rattle.cx_fsm.proofs.ordering.height_above.Goals as goal
use Rattle.cx_text.proofs.ListLaws.{drop_item}
use Rattle.cx_fsm.proofs.ordering.height_above.Goals.{in-Part+in_ok-beyond, in_default}

pub loop-cell-preserved : goal.loop-cell-preserved
loop-cell-preserved c = λ d.
    let other : drop c.loop-cell.cell-index c.args.cells.now ≡ c.cell-item.result ∷ drop (c.loop-cell.cell-index + 1) c.args.cells.now = drop_item _ _ _ c.cell-item.is c.loop-cell-test.true in
    let cell = plain_cell c.cell-item.result in
    let rest = map plain_cell (drop (c.loop-cell.cell-index + 1) c.args.cells.now) in
    let whole = rounds.height_above d c.args.heights.now (map plain_cell c.args.cells.now) in
    let before : max c.loop-cell.height (rounds.height_above d c.args.heights.now (cell ∷ rest)) ≡ whole = rw other at c.loop-cell.invariant d in
    elim c.match-cell.branch [
      | in-Part+in_ok-beyond w ↦
          above_part d c.args.heights.now c.loop-cell.height c.match-cell.height w.in-Part.part whole cell rest (ap plain_kind w.in-Part.is)
          (w.height-is ∙ w.max-height.ensures ∙ ap (max c.loop-cell.height) (w.in_ok-beyond.ensures.value ∙ ap (λ n. n + 1) w.height_in.ensures.value)) before
      | in_default w ↦
          ap (λ n. max n (rounds.height_above d c.args.heights.now rest)) w.height-is
          ∙ above_primitive d c.args.heights.now c.loop-cell.height whole w.in_default.field-0 cell rest (ap plain_kind w.in_default.is) before
    ]

pub returns : goal.returns
returns c =
    let none : drop c.loop-cell.cell-index c.args.cells.now ≡ [] = drop_all _ _ c.loop-cell-test.false in
    let alone : c.loop-cell.height ≡ max c.loop-cell.height 0 = omega arith in
    record { value = λ d. alone ∙ (rw none at c.loop-cell.invariant d) }
