use Rattle.std.proofs.Common.{◌≡◌, ◌<◌, ◌≤◌, max, ⊎_elim, length, sym, ap, ◌∙◌, subst, arith}
use Rattle.std.proofs.lemmas.Bool.{cases_lt}
use Rattle.std.proofs.lemmas.List.{length-map}
use Rattle.cx_meaning.specs.Designs.{PlainComponent, component_at}
use Rattle.cx_design.specs.PlainForms.{plain_cell, plain_component}
use Rattle.cx_design.specs.PlainDesigns.{plain_design}
use Rattle.cx_turns.proofs.RoomLemmas.{component_read}
use Rattle.cx_turns.proofs.rooms.most_cells.Goals as goal

pub loop-component-preserved : goal.loop-component-preserved
loop-component-preserved c k less =
    let d = plain_design c.args.design.now in
    let at = c.loop-component.component-index in
    let read : plain_component c.component-item.result ≡ component_at d at =
    component_read c.args.design.now.components.items c.deref-component-items.result.now at c.component-item.result c.deref-component-items.ensures.value c.loop-component-test.true c.component-item.is in
    let own : length (component_at d at).cells ≡ length c.component-item.result.cells.items = ap (λ (p : PlainComponent). length p.cells) (sym read) ∙ length-map c.component-item.result.cells.items plain_cell in
    let count = c.component-item.result.cells.ok.0 in
    let long = c.len.ensures in
    let most : c.max-most.result ≡ max c.loop-component.most c.len.result = c.max-most.ensures in
    ⊎_elim (λ (below : k < at). (let h = c.loop-component.invariant k below in omega (arith, h, most)))
    (λ (above : at ≤ k).
    let same : k ≡ at = omega (arith, above, less) in
    subst (λ j. length (component_at d j).cells ≤ c.max-most.result) (sym same) (omega (arith, own, count, long, most)))
    (cases_lt k at)

pub returns : goal.returns
returns c k lt =
    let long : length (plain_design c.args.design.now).components ≡ length c.args.design.now.components.items = length-map c.args.design.now.components.items plain_component in
    let same : length c.deref-component-items.result.now ≡ length c.args.design.now.components.items = ap length c.deref-component-items.ensures.value in
    let all = c.loop-component-test.false in
    c.loop-component.invariant k (omega (arith, lt, long, same, all))
