use Rattle.std.proofs.Common.{◌≡◌, ◌+◌, ◌-◌, ◌<◌, ◌∙◌, length, sym, get_or, arith, rules}
use Rattle.std.proofs.lemmas.List.{length-map}
use Rattle.cx_sharing.specs.Giving.{keeper}
use Rattle.cx_design.specs.PlainForms.{plain_cell, plain_component}
use Rattle.cx_share.proofs.TreeLemmas.{row_none, row_more, row_made, stays_itself, goes}
use Rattle.cx_share.proofs.rows.add_rows.Goals as goal

pub loop-number-preserved-then-keeper-number : goal.loop-number-preserved-then-keeper-number
loop-number-preserved-then-keeper-number c =
    let part = plain_component c.args.part.now in
    let cells = c.args.part.now.cells.items in
    let n = c.loop-number.number in
    let inside : n < length cells = search rules in
    let lt : n < length part.cells = rw (length-map cells plain_cell) inside in
    let at : get_or c.args.keepers.now n 0 ≡ keeper part n = c.requires.keepers.keeps n lt in
    row_none part n (length cells - n) (length cells - (n + 1)) c.loop-number.rows.items _ (omega (arith, inside)) (stays_itself part n (sym at ∙ c.if-keeper-number.true)) c.loop-number.invariant

pub loop-number-preserved : goal.loop-number-preserved
loop-number-preserved c =
    let part = plain_component c.args.part.now in
    let cells = c.args.part.now.cells.items in
    let n = c.loop-number.number in
    let inside : n < length cells = search rules in
    let lt : n < length part.cells = rw (length-map cells plain_cell) inside in
    let at : get_or c.args.keepers.now n 0 ≡ keeper part n = c.requires.keepers.keeps n lt in
    rw c.in_ok-push.ensures.items
    (row_more part n (length cells - n) (length cells - (n + 1)) c.loop-number.rows.items _ c.in_ok-row_of.field-0 (omega (arith, inside)) (goes part n (λ e. c.if-keeper-number.false (at ∙ e)))
    (row_made part n (get_or c.args.keepers.now n 0) c.in_ok-row_of.field-0 at c.in_ok-row_of.ensures.component c.in_ok-row_of.ensures.cell c.in_ok-row_of.ensures.kept) c.loop-number.invariant)
