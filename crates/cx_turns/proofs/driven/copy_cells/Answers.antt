use Rattle.std.proofs.Common.{◌≡◌, ◌<◌, ◌≤◌, ◌+◌, List, [], ◌∷◌, ◌++◌, ℕ, get_or, length, take, sym, ap, ◌∙◌, arith}
use Rattle.std.proofs.lemmas.List.{take_all, take_more}
use Rattle.cx_turns.proofs.driven.copy_cells.Goals as goal

pub push_reserved-requires : goal.push_reserved-requires
push_reserved-requires c =
    let less : c.loop-cell.cell-index < length c.args.driven.now = omega (arith, c.loop-cell-test.true, c.loop-cell.auto.cell-index-end) in
    let count = c.loop-cell.invariant.count in
    let more = c.loop-cell.invariant.room in
    let room = c.requires.room in
    omega (arith, less, count, more, room)

pub loop-cell-preserved : goal.loop-cell-preserved
loop-cell-preserved c =
    let xs = c.args.driven.now in
    let k = c.loop-cell.cell-index in
    let less : k < length xs = omega (arith, c.loop-cell-test.true, c.loop-cell.auto.cell-index-end) in
    let before = c.loop-cell.invariant.room in
    let same = c.push_reserved.ensures.capacity in
    record {
      items = c.push_reserved.ensures.items ∙ ap (λ (ys : List ℕ). ys ++ get_or xs k 0 ∷ []) c.loop-cell.invariant.items ∙ sym (take_more xs k 0 less);
      count = c.push_reserved.ensures.len ∙ ap (λ n. n + 1) c.loop-cell.invariant.count;
      room = omega (arith, before, same);
    }

pub returns-clause-items : goal.returns-clause-items
returns-clause-items c =
    let past : length c.args.driven.now ≤ c.loop-cell.cell-index = omega (arith, c.loop-cell-test.false, c.loop-cell.auto.cell-index-end) in
    c.loop-cell.invariant.items ∙ take_all c.loop-cell.cell-index c.args.driven.now past
