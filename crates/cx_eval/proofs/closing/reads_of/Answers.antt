use Rattle.std.proofs.Common.{slice_get, sym, ap, ◌∙◌}
use Rattle.cx_eval_network.specs.Plans.{planned}
use Rattle.cx_eval.proofs.closing.reads_of.Goals as goal

pub returns-in-Some-Output : goal.returns-in-Some-Output
returns-in-Some-Output c = record {
  value = λ i h.
      let at = sym (c.in_ok-number.ensures.value i h.part.numbers) in
      let there = ap (λ xs. slice_get xs c.in_ok-number.number) (sym c.deref.ensures.value) ∙ c.in-Some-Output.ensures.some in
      record { number = c.in_ok-number.number; at = at; is = ap planned (sym c.in-Some-Output.field-0-is) ∙ h.plans.each c.in_ok-number.number c.args.port c.in-Some-Output.field-0.now there at };
}
