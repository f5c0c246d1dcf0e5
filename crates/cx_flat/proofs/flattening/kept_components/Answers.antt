use Rattle.std.proofs.Common.{◌≡◌, ◌∙◌, ◌++◌, length, ap, sym, arith}
use Rattle.std.specs.Vec.{vec_len}
use Rattle.std.proofs.lemmas.List.{length-map}
use Rattle.cx_design.specs.PlainForms.{plain_component}
use Rattle.cx_design.specs.PlainDesigns.{plain_design}
use Rattle.cx_flat.specs.Flats.{kept_for}
use Rattle.cx_flat.proofs.NumberLemmas.{made_for, made_next}
use Rattle.cx_flat.proofs.flattening.kept_components.Goals as goal

pub loop-number-preserved : goal.loop-number-preserved
loop-number-preserved c =
    let d = plain_design c.args.design.now in
    c.in_ok-all.ensures.value ∙ ap (λ l. l ++ kept_for d c.loop-number.number) c.loop-number.invariant ∙ sym (made_next d c.loop-number.number)

pub returns : goal.returns
returns c =
    let d = plain_design c.args.design.now in
    let last = c.loop-number.auto.number-end in
    let size : vec_len c.args.design.now.components ≡ length c.args.design.now.components.items = omega (arith, c.args.design.now.components.ok.0) in
    let all : c.loop-number.number ≡ length d.components =
    (let e : c.loop-number.number ≡ c.len-number-end.result = omega (arith, last, c.loop-number-test.false) in e)
    ∙ c.len-number-end.ensures ∙ size ∙ sym (length-map c.args.design.now.components.items plain_component) in
    record { value = c.loop-number.invariant ∙ ap (made_for d) all }
