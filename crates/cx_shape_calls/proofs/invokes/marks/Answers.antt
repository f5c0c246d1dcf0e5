use Rattle.std.proofs.Common.{◌≡◌, ◌∙◌, ◌+◌, Some, ap, length, subst, sym}
use Rattle.cx_text.proofs.MemberLaws.{in_at}
use Rattle.cx_meaning.specs.Designs.{component_at}
use Rattle.cx_meaning.specs.Instances.{part_of}
use Rattle.cx_meaning.proofs.DesignsLemmas.{same_part}
use Rattle.cx_rules.specs.Invokes.{invoke_at}
use Rattle.cx_rules.specs.Ports.{component_of}
use Rattle.cx_design.specs.PlainForms.{plain_invoke}
use Rattle.cx_design.specs.PlainDesigns.{plain_design}
use Rattle.cx_shape_calls.specs.StaticInvokes.{AreMarksOf}
use Rattle.cx_shape_calls.proofs.InvokeLemmas.{got_invoke, marks_more}
use Rattle.cx_shape_calls.proofs.invokes.marks.Goals as goal

pub is_wrong_invoke-requires-clause-stands : goal.is_wrong_invoke-requires-clause-stands
is_wrong_invoke-requires-clause-stands c =
    let part = component_at (plain_design c.args.design.now) c.args.number in
    let x = c.index-invokes-place.result in
    let n = c.loop-place.place in
    in_at part.invokes n (plain_invoke x)
    (got_invoke part c.component.result.now c.as_slice-invokes.result.now n x c.component.ensures.value c.as_slice-invokes.ensures.value c.loop-place-test.true c.index-invokes-place.is)

pub loop-place-preserved : goal.loop-place-preserved
loop-place-preserved c =
    let d = plain_design c.args.design.now in
    let i = component_of d c.args.number in
    let part = component_at d c.args.number in
    let x = c.index-invokes-place.result in
    let n = c.loop-place.place in
    let is : invoke_at (part_of i) n ≡ Some (plain_invoke x) =
    ap (λ p. invoke_at p n) (same_part d (length d.components) c.args.number)
    ∙ got_invoke part c.component.result.now c.as_slice-invokes.result.now n x c.component.ensures.value c.as_slice-invokes.ensures.value c.loop-place-test.true c.index-invokes-place.is in (
      subst (λ l. AreMarksOf i (n + 1) l) (sym c.in_ok-push.ensures.items)
          (marks_more i n c.loop-place.marks.items c.in_ok-wrong.wrong (plain_invoke x) is c.loop-place.invariant.0 c.in_ok-wrong.ensures.value),
      c.in_ok-wrong.ensures.tally,
    )
