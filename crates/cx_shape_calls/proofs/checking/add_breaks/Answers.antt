use Rattle.std.proofs.Common.{◌≡◌, [], ◌++◌, refl, subst, length, arith}
use Rattle.std.proofs.lemmas.List.{length-map}
use Rattle.cx_design.specs.PlainForms.{plain_component}
use Rattle.cx_design.specs.PlainDesigns.{plain_design}
use Rattle.cx_design_parts.specs.Answers.{AreBreaksBy}
use Rattle.cx_shape_calls.specs.CallBreaks.{Before}
use Rattle.cx_shape_calls.proofs.BreakLemmas.{none_before, one_more, all_before, first_more}
use Rattle.cx_shape_calls.proofs.checking.add_breaks.Goals as goal

pub loop-number-init : goal.loop-number-init
loop-number-init c = ([], none_before (plain_design c.args.design.now), refl)

pub loop-number-preserved : goal.loop-number-preserved
loop-number-preserved c =
    let d = plain_design c.args.design.now in
    let so_far = c.loop-number.invariant in
    let more = c.in_ok-add_component.ensures.value in
    (so_far.0 ++ more.0, one_more d c.loop-number.number so_far.0 more.0 so_far.1 more.1, first_more c.args.first.now c.loop-number.first c.add_component.new.first so_far.0 more.0 so_far.2 more.2)

pub returns : goal.returns
returns c =
    let d = plain_design c.args.design.now in
    let so_far = c.loop-number.invariant in
    let end : c.loop-number.number ≡ length d.components = omega (arith, length-map c.args.design.now.components.items plain_component) in
    record { value = (so_far.0, all_before d so_far.0 (subst (λ n. AreBreaksBy (Before d n) so_far.0) end so_far.1), so_far.2) }
