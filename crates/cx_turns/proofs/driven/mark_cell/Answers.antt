use Rattle.std.proofs.Common.{rules, ◌≡◌, ◌<◌, false, true, sym, subst, arith}
use Rattle.std.specs.List.{slice_set}
use Rattle.std.specs.Prelude.{vec_len, vec_capacity}
use Rattle.cx_turns.specs.Marks.{Lists, is_marked}
use Rattle.cx_turns.proofs.MarkLists.{lists_more, set_below}
use Rattle.cx_turns.proofs.driven.mark_cell.Goals as goal

pub returns-then-not-marks-cell-clause-lists : goal.returns-then-not-marks-cell-clause-lists
returns-then-not-marks-cell-clause-lists c =
    let off : is_marked c.args.marks.now c.args.cell ≡ false = search (rules, c.if-not-marks-cell.true) in
    let below = set_below c.args.marks.now c.args.cell c.requires.within off in
    let count = c.requires.lists.count in
    let whole = c.args.cells.now.ok.0 in
    let room = c.requires.room in
    let less : vec_len c.args.cells.now < vec_capacity c.args.cells.now = omega (arith, below, count, whole, room) in
    subst (λ xs. Lists (slice_set c.args.marks.now c.args.cell true) xs) (sym (search (rules, c.push.ensures.items, less))) (lists_more c.args.marks.now c.args.cells.now.items c.args.cell c.requires.within off c.requires.lists)
