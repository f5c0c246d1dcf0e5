use Rattle.std.proofs.Common.{◌≡◌, ◌+◌, ◌*◌, ◌∙◌, length, map, ap, sym}
use Rattle.std.proofs.lemmas.Result.{IfOk-weaker}
use Rattle.cx_design.specs.PlainForms.{plain_cell, plain_component, plain_group}
use Rattle.cx_design.specs.PlainDesigns.{plain_design}
use Rattle.cx_profile.specs.Counted.{counted_among}
use Rattle.cx_profile.specs.Renumbering.{renumber}
use Rattle.cx_profile.specs.Making.{own_of, made_child}
use Rattle.cx_profile.proofs.MadeLemmas.{child_from}
use Rattle.cx_profile.proofs.components.instrumented_child.Goals as goal

pub returns : goal.returns
returns c =
    let d = plain_design c.args.design.now in
    let part = plain_component c.args.part.now in
    let own : c.in_ok-own.own ≡ own_of part =
    c.in_ok-own.ensures.value ∙ ap (λ cs. counted_among (map plain_cell cs) (map plain_group c.deref-2.result.now)) c.deref.ensures.value
    ∙ ap (λ gs. counted_among part.cells (map plain_group gs)) c.deref-2.ensures.value in
    let wanted : c.in_ok-count.count ≡ 2 * c.in_ok-own.own + length c.deref-5.result.now =
    c.in_ok-count.ensures.value ∙ ap (λ ps. 2 * c.in_ok-own.own + length ps) (c.deref-3.ensures.value ∙ sym c.deref-5.ensures.value) in
    record {
      value = IfOk-weaker c.child_component.result _ (λ made. plain_component made ≡ made_child d (renumber c.args.dones.now) part)
          (λ made is. is ∙ child_from d (renumber c.args.dones.now) part c.deref-4.result.now c.in_ok-own.own c.in_ok-count.count c.deref-5.result.now own
          (c.deref-5.ensures.value ∙ c.in_ok-ports.ensures.value) wanted (c.deref-4.ensures.value ∙ c.in_ok-names.ensures.value))
          c.child_component.ensures.value;
    }
