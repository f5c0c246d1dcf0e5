use Rattle.std.proofs.Common.{◌≡◌, ◌∙◌, Some, ap, arith, sym}
use Rattle.std.specs.List.{slice_get}
use Rattle.std.proofs.lemmas.Grind.{common_steps}
use Rattle.std.proofs.lemmas.Option.{gets}
use Rattle.std.proofs.lemmas.Result.{IfOk-weaker}
use Rattle.cx_design.specs.PlainForms.{plain_form}
use Rattle.cx_flat.specs.Callers.{kids_in, part_of}
use Rattle.cx_flat.specs.Controls.{inlined_at}
use Rattle.cx_flat.proofs.InvokeLemmas.{inlined_here}
use Rattle.cx_flat.proofs.invokes.inlined_form.Goals as goal

pub returns-in-Some-Some : goal.returns-in-Some-Some
returns-in-Some-Some c =
    let k = c.args.number in
    let there : slice_get c.deref.result.now k ≡ Some c.in-Some-Some.invoke.now = grind (arith, common_steps, gets) in
    let at : slice_get c.args.caller.part.now.invokes.items k ≡ Some c.in-Some-Some.invoke.now = ap (λ vs. slice_get vs k) (sym c.deref.ensures.value) ∙ there in
    let first : slice_get c.args.firsts.now k ≡ Some c.in-Some-Some.first.now = grind (arith, common_steps, gets) in
    record {
      value = IfOk-weaker c.inlined_invoke.result _ (λ f. plain_form f ≡ inlined_at (kids_in c.args.caller) (part_of c.args.caller) k)
          (λ f made. inlined_here (kids_in c.args.caller) c.args.caller.part.now k c.in-Some-Some.invoke.now (plain_form f) at (made k (c.requires.firsts k c.in-Some-Some.first.now first)))
          c.inlined_invoke.ensures.value;
    }
