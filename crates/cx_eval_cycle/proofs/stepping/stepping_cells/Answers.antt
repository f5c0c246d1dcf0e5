use Rattle.std.proofs.Common.{rules, ◌≡◌, length, map, sym, ◌∙◌, subst}
use Rattle.std.proofs.lemmas.List.{length-map}
use Rattle.cx_design.specs.PlainForms.{plain_cell}
use Rattle.cx_eval_cycle.specs.Stepping.{IsKeptOf}
use Rattle.cx_eval_cycle.proofs.SteppingLemmas.{all_kept, kept_more, kind_there}
use Rattle.cx_eval_cycle.proofs.stepping.stepping_cells.Goals as goal

pub loop-cell-preserved : goal.loop-cell-preserved
loop-cell-preserved c =
    let cells = c.args.cells.now in
    let n = c.loop-cell.cell in
    let kept = c.in_ok-stepping_cell.field-0 in
    kept_more (map plain_cell cells) n c.loop-cell.kept.items c.push.new.self.items kept c.loop-cell.invariant c.in_ok-push.ensures.items
    (subst (λ kind. IsKeptOf kind kept) (sym (kind_there cells n c.index-cells-cell.result c.loop-cell-test.true)) c.in_ok-stepping_cell.ensures.value)

pub returns : goal.returns
returns c =
    let all : c.loop-cell.cell ≡ length c.args.cells.now = search rules in
    record { value = all_kept (map plain_cell c.args.cells.now) c.loop-cell.cell c.loop-cell.kept.items c.loop-cell.invariant (length-map c.args.cells.now plain_cell ∙ sym all) }
