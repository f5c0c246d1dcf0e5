use Rattle.std.proofs.Common.{◌≡◌, ◌<◌, ◌∙◌, [], true, false, ap, sym, get_or, map, length, arith, rules}
use Rattle.std.proofs.lemmas.List.{get_or_default, length-map}
use Rattle.cx_design.specs.PlainForms.{plain_cell, plain_component}
use Rattle.cx_share.specs.Givings.{plain_kept}
use Rattle.cx_share.proofs.GiveLemmas.{kept_within, now_given}
use Rattle.cx_share.proofs.RefusedLemmas.{near_wide}
use Rattle.cx_share.proofs.giving.kept_cells.Goals as goal

pub give-requires-clause-kept : goal.give-requires-clause-kept
give-requires-clause-kept c = rw c.loop-cell.invariant.kept (kept_within (plain_component c.args.part.now) c.loop-cell.cell)

pub give-requires-clause-count : goal.give-requires-clause-count
give-requires-clause-count c =
    let cells = c.args.part.now.cells.items in
    let table = c.args.table.now in
    let inside : c.loop-cell.cell < length c.args.candidates.now = search rules in
    let same = length-map cells plain_cell in
    let below : c.loop-cell.cell < length (map plain_cell cells) = omega (arith, inside, c.requires.count, same) in
    let lt : c.loop-cell.cell < length table = omega (arith, below, c.requires.table.table.height) in
    ap length (c.index-table-cell.is ∙ get_or_default table c.loop-cell.cell c.index-table-cell.result [] lt) ∙ c.requires.table.table.width c.loop-cell.cell below ∙ same

pub loop-cell-preserved : goal.loop-cell-preserved
loop-cell-preserved c =
    let inside : c.loop-cell.cell < length c.args.candidates.now = search rules in
    let marked : get_or c.args.candidates.now c.loop-cell.cell false ≡ true = search rules in
    record {
      kept = now_given (plain_component c.args.part.now) c.loop-cell.cell (map plain_kept c.loop-cell.kept.items) (map plain_kept c.give.new.kept.items)
          (sym (c.requires.candidates c.loop-cell.cell inside) ∙ marked) c.loop-cell.invariant.kept c.in_ok-give.ensures.value;
      near = c.in_ok-give.ensures.near;
      refused = rw (sym c.as_slice-in-loop-cell.ensures.value) c.in_ok-refuse.ensures.refused;
    }

pub refuse-requires-clause-wide : goal.refuse-requires-clause-wide
refuse-requires-clause-wide c = near_wide (plain_component c.args.part.now) c.as_slice-in-loop-cell.result.now (rw c.as_slice-in-loop-cell.ensures.value c.in_ok-give.ensures.near)
