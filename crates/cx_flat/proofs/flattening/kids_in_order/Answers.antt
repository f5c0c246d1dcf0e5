use Rattle.std.proofs.Common.{◌≡◌, length, sym, ◌∙◌, arith}
use Rattle.std.specs.Vec.{vec_len}
use Rattle.std.proofs.lemmas.List.{length-map}
use Rattle.cx_design.specs.PlainForms.{plain_component}
use Rattle.cx_design.specs.PlainDesigns.{plain_design}
use Rattle.cx_flat.proofs.TableLemmas.{kids_begin, kids_end}
use Rattle.cx_flat.proofs.flattening.kids_in_order.Goals as goal

pub loop-place-init : goal.loop-place-init
loop-place-init c =
    let size : vec_len c.args.design.now.components ≡ length c.args.design.now.components.items = omega (arith, c.args.design.now.components.ok.0) in
    kids_begin (plain_design c.args.design.now) c.args.order.now c.args.lasts.now c.in_ok-kids.kids.items
    (c.in_ok-kids.ensures.value ∙ c.len.ensures ∙ size ∙ sym (length-map c.args.design.now.components.items plain_component))

pub returns : goal.returns
returns c =
    record { value = kids_end (plain_design c.args.design.now) c.args.order.now c.args.lasts.now c.loop-place.place c.loop-place.kids.items c.loop-place-test.false c.loop-place.auto.place-end c.loop-place.invariant }
