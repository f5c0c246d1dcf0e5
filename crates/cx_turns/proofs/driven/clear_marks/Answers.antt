use Rattle.std.proofs.Common.{◌&&◌, ◌<◌, not, false, nat_eq, ℕ, get_or, length, take, sym, ap, ◌∙◌, arith}
use Rattle.std.proofs.lemmas.List.{length-set}
use Rattle.cx_eval_cycle.specs.Passes.{listed_in}
use Rattle.cx_turns.specs.Marks.{is_marked}
use Rattle.cx_eval_cycle.proofs.PassLemmas.{listed_more}
use Rattle.cx_turns.proofs.MarkLists.{clear_one, not_joined}
use Rattle.cx_turns.proofs.driven.clear_marks.Goals as goal

pub loop-cell-preserved : goal.loop-cell-preserved
loop-cell-preserved c =
    let less : c.loop-cell.cell-index < length c.args.cells.now = omega (arith, c.loop-cell-test.true, c.loop-cell.auto.cell-index-end) in
    let k : ℕ = get_or c.args.cells.now c.loop-cell.cell-index 0 in
    let there : k < length c.args.marks.now = c.requires.within c.loop-cell.cell-index 0 less in
    let same = c.loop-cell.invariant.0 in
    let inside : k < length c.loop-cell.marks = omega (arith, there, same) in (
      length-set c.loop-cell.marks k false ∙ c.loop-cell.invariant.0,
      λ q.
          clear_one c.loop-cell.marks k q inside
          ∙ ap (λ b. not (nat_eq k q) && b) (c.loop-cell.invariant.1 q)
          ∙ not_joined (nat_eq k q) (listed_in (take c.loop-cell.cell-index c.args.cells.now) q) (is_marked c.args.marks.now q)
          ∙ ap (λ b. not b && is_marked c.args.marks.now q) (sym (listed_more c.args.cells.now c.loop-cell.cell-index q less)),
    )
