use Rattle.std.proofs.Common.{◌≡◌, ◌<◌, length, get_or, sym, ap, ◌∙◌, subst, arith}
use Rattle.std.proofs.lemmas.List.{length-map}
use Rattle.cx_meaning.specs.Designs.{component_at}
use Rattle.cx_design.proofs.DesignFacts.{component_is}
use Rattle.cx_design.specs.PlainForms.{plain_component}
use Rattle.cx_design.specs.PlainDesigns.{plain_design}
use Rattle.cx_limits.specs.Inners.{below_at}
use Rattle.cx_limits.specs.Rows.{inners_by, plain_inners}
use Rattle.cx_limits.specs.Scan.{past_first}
use Rattle.cx_limits.proofs.ScanLemmas.{scan_step}
use Rattle.cx_limits.proofs.checking.first_limit.Goals as goal

pub loop-number-preserved : goal.loop-number-preserved
loop-number-preserved c =
    let d = plain_design c.args.design.now in
    let k = c.loop-number.number in
    let components = c.args.design.now.components.items in
    let rows = c.in_ok-rows.rows.items in
    let part = plain_component c.index-components-number.result in
    let below = plain_inners c.as_slice-in-loop-number-2.result.now in
    let lt : k < length components = subst (λ xs. k < length xs) c.as_slice-components.ensures.value c.loop-number-test.true in
    let own : part ≡ component_at d k =
    component_is components k c.index-components-number.result lt (c.index-components-number.is ∙ ap (λ xs. get_or xs k c.index-components-number.result) c.as_slice-components.ensures.value) in
    let there : below ≡ below_at d k =
    ap plain_inners c.as_slice-in-loop-number-2.ensures.value ∙ c.in_ok-below.ensures ∙ ap (λ rs. inners_by d rs part.cells) c.as_slice-in-loop-number.ensures.value
    ∙ ap (λ p. inners_by d rows p.cells) own ∙ c.in_ok-rows.ensures.below k (subst (λ n. k < n) (sym (length-map components plain_component)) lt) in
    scan_step d c.loop-number.best c.past_one-best.result k part below c.in_ok-tally.tally c.loop-number.invariant own there c.in_ok-tally.ensures c.past_one-best.ensures

pub returns : goal.returns
returns c =
    let d = plain_design c.args.design.now in
    let components = c.args.design.now.components.items in
    let all : length c.as_slice-components.result.now ≡ length components = ap length c.as_slice-components.ensures.value in
    let same : length d.components ≡ length components = length-map components plain_component in
    let done : c.loop-number.number ≡ length d.components = omega (arith, all, same, c.loop-number-test.false, c.loop-number.auto.number-end) in
    c.loop-number.invariant ∙ ap (past_first d) done
