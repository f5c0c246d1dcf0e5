use Rattle.std.proofs.Common.{◌≡◌, ◌∙◌, ◌+◌, ◌∷◌, ◌++◌, [], ap, sym, subst, refl, take}
use Rattle.std.proofs.lemmas.List.{take_more, map-append}
use Rattle.cx_design.specs.PlainForms.{plain_assign, plain_assigns}
use Rattle.cx_shape_calls.specs.StaticInvokes.{AreBound}
use Rattle.cx_shape_calls.proofs.invokes.bound_inputs.Goals as goal

pub loop-input-preserved : goal.loop-input-preserved
loop-input-preserved c =
    let x = c.input-item.result in
    let k = c.loop-input.input-index in
    let so_far = c.loop-input.invariant in
    let inputs = c.args.inputs.now in
    let more : plain_assigns (take k inputs) ++ plain_assign x ∷ [] ≡ plain_assigns (take (k + 1) inputs) =
    sym (ap plain_assigns (take_more inputs k x c.loop-input-test.true ∙ ap (λ y. take k inputs ++ y ∷ []) (sym c.input-item.is)) ∙ map-append plain_assign (take k inputs) (x ∷ [])) in
    subst (λ l. AreBound c.args.cell l c.args.count c.mark_input.new.marks.items) more
    (subst (λ m. AreBound c.args.cell (plain_assigns (take k inputs) ++ plain_assign x ∷ []) m c.mark_input.new.marks.items) so_far.many
    (c.mark_input.ensures.value (plain_assigns (take k inputs)) (plain_assign x) refl
    (subst (λ m. AreBound c.args.cell (plain_assigns (take k inputs)) m c.loop-input.marks.items) (sym so_far.many) so_far)))
