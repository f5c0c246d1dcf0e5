use Rattle.std.proofs.Common.{◌||◌, ◌<◌, nat_eq, ℕ, get_or, length, take, sym, ap, ◌∙◌, arith}
use Rattle.cx_eval_cycle.specs.Passes.{listed_in}
use Rattle.cx_turns.specs.Marks.{is_marked}
use Rattle.cx_eval_cycle.proofs.PassLemmas.{listed_more}
use Rattle.cx_text.proofs.BoolLaws.{or_assoc}
use Rattle.cx_turns.proofs.driven.mark_cells.Goals as goal

pub loop-cell-preserved : goal.loop-cell-preserved
loop-cell-preserved c =
    let less : c.loop-cell.cell-index < length c.args.driven.now = omega (arith, c.loop-cell-test.true, c.loop-cell.auto.cell-index-end) in
    let k : ℕ = get_or c.args.driven.now c.loop-cell.cell-index 0 in
    let before = c.loop-cell.invariant.room in
    let more = c.mark_cell.ensures.room in
    record {
      length = c.mark_cell.ensures.length ∙ c.loop-cell.invariant.length;
      marked = λ q.
          c.mark_cell.ensures.marked q
          ∙ ap (λ b. nat_eq k q || b) (c.loop-cell.invariant.marked q)
          ∙ sym (or_assoc (nat_eq k q) (listed_in (take c.loop-cell.cell-index c.args.driven.now) q) (is_marked c.args.marks.now q))
          ∙ ap (λ b. b || is_marked c.args.marks.now q) (sym (listed_more c.args.driven.now c.loop-cell.cell-index q less));
      lists = c.mark_cell.ensures.lists;
      room = omega (arith, before, more);
    }
