use Rattle.std.proofs.Common.{◌≡◌, ◌∷◌, ◌+◌, drop, length, map, ap, arith}
use Rattle.cx_text.proofs.ListLaws.{drop_item}
use Rattle.cx_meaning.specs.Instances.{externals_from}
use Rattle.cx_design.specs.PlainForms.{plain_cell}
use Rattle.cx_profile.proofs.DesignLemmas.{external_counts, other_counts}
use Rattle.cx_profile.proofs.instrumenting.externals.Goals as goal
use Rattle.cx_profile.proofs.instrumenting.externals.Goals.{then-cell+in_ok-count, else-cell}

pub loop-cell-preserved : goal.loop-cell-preserved
loop-cell-preserved c =
    let rest = map plain_cell (drop (c.loop-cell.cell-index + 1) c.args.cells.now) in
    let left : length (externals_from 0 (map plain_cell (drop c.loop-cell.cell-index c.args.cells.now))) ≡ length (externals_from 0 (plain_cell c.cell-item.result ∷ map plain_cell (drop (c.loop-cell.cell-index + 1) c.args.cells.now))) =
    ap (λ cs. length (externals_from 0 (map plain_cell cs))) (drop_item c.args.cells.now c.loop-cell.cell-index c.cell-item.result c.cell-item.is c.loop-cell-test.true) in
    elim c.if-cell.branch [
      | then-cell+in_ok-count w ↦ omega (arith, left, c.loop-cell.invariant, w.count-is, w.in_ok-count.ensures.value, external_counts (plain_cell c.cell-item.result) rest w.if-cell.true)
      | else-cell w ↦ omega (arith, left, c.loop-cell.invariant, w.count-is, other_counts (plain_cell c.cell-item.result) rest w.if-cell.false)
    ]
