use Rattle.std.proofs.Common.{◌≡◌, ◌∙◌, ◌<◌, false, get_or, length, map, ap, sym, arith, subst}
use Rattle.std.specs.Prelude.{◌&&◌, is_none}
use Rattle.std.specs.List.{range_with_len}
use Rattle.std.proofs.lemmas.List.{length-map}
use Rattle.cx_meaning.specs.Designs.{PlainComponent, component_at}
use Rattle.cx_design.proofs.DesignFacts.{component_is}
use Rattle.cx_design.specs.declared.components.Component.{Component}
use Rattle.cx_design.specs.PlainForms.{plain_component}
use Rattle.cx_design.specs.PlainDesigns.{plain_design}
use Rattle.cx_flattening.specs.FlatDesign.{is_reached}
use Rattle.cx_flat.proofs.MarkLemmas.{kept_is}
use Rattle.cx_flat.proofs.flattening.dynamic_marks.Goals as goal
use Rattle.cx_text.proofs.ListLaws.{range_pushed}

pub loop-number-preserved : goal.loop-number-preserved
loop-number-preserved c =
    let d = plain_design c.args.design.now in
    let n = c.loop-number.number in
    let part = c.index-components-number.result in
    let there : n < length c.args.design.now.components.items = subst (λ xs. n < length xs) c.as_slice-components.ensures.value c.loop-number-test.true in
    let less : n < length d.components = subst (λ k. n < k) (sym (length-map c.args.design.now.components.items plain_component)) there in
    let own : plain_component part ≡ component_at d n =
    component_is c.args.design.now.components.items n part there (c.index-components-number.is ∙ ap (λ xs. get_or xs n part) c.as_slice-components.ensures.value) in
    range_pushed (is_reached d) c.loop-number.marks.items c.push.new.self.items c.is_kept.result n c.in_ok-push.ensures.items c.loop-number.invariant
    (c.is_kept.ensures.value ∙ ap (λ (p : Component). get_or c.args.made.now n false && is_none p.latency) (sym c.index-components-number.is) ∙ ap (λ (p : PlainComponent). get_or c.args.made.now n false && is_none p.latency) own ∙ kept_is d c.args.design.now.keeps c.args.made.now n c.requires.made less)

pub bounds-made-number : goal.bounds-made-number
bounds-made-number c =
    let sized = c.requires.made.sized in
    let there : c.loop-number.number < length c.args.design.now.components.items = subst (λ xs. c.loop-number.number < length xs) c.as_slice-components.ensures.value c.loop-number-test.true in
    let size = length-map c.args.design.now.components.items plain_component in
    omega (arith, sized, there, size)

pub returns : goal.returns
returns c =
    let d = plain_design c.args.design.now in
    let last = c.loop-number.auto.number-end in
    let all : c.loop-number.number ≡ length d.components =
    (let e : c.loop-number.number ≡ length c.as_slice-components.result.now = omega (arith, last, c.loop-number-test.false) in e)
    ∙ ap length c.as_slice-components.ensures.value ∙ sym (length-map c.args.design.now.components.items plain_component) in
    record { value = c.loop-number.invariant ∙ ap (λ n. map (is_reached d) (range_with_len 0 n)) all }
