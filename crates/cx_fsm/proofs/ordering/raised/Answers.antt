use Rattle.std.proofs.Common.{◌≡◌, ◌∷◌, ◌+◌, ◌++◌, [], ◌∙◌, append_assoc, drop, map, ap}
use Rattle.cx_design.specs.PlainForms.{plain_cell}
use Rattle.cx_static.specs.PlainLowered.{plain_lowered, plain_lowereds}
use Rattle.cx_fsm.specs.Rounds.{height_above}
use Rattle.cx_text.proofs.ListLaws.{drop_item}
use Rattle.cx_fsm.proofs.ordering.raised.Goals as goal

pub loop-component-preserved : goal.loop-component-preserved
loop-component-preserved c =
    let items = c.components-component-items.result.now in
    let other : drop c.loop-component.component-index items ≡ c.component-item.result ∷ drop (c.loop-component.component-index + 1) items = drop_item _ _ _ c.component-item.is c.loop-component-test.true in
    let d = plain_lowereds c.args.design.now in
    let rest = map (λ l. height_above d c.args.heights.now l.part.cells) (map plain_lowered (drop (c.loop-component.component-index + 1) items)) in
    rw c.in_ok-push.ensures.items
    (append_assoc c.loop-component.higher.items (c.in_ok-height_above.field-0 ∷ []) rest
    ∙ ap (λ n. c.loop-component.higher.items ++ n ∷ rest) (c.in_ok-height_above.ensures.value d ∙ ap (λ l. height_above d c.args.heights.now (map plain_cell l)) c.deref.ensures.value)
    ∙ (rw other at c.loop-component.invariant))
