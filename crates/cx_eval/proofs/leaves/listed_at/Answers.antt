use Rattle.std.proofs.Common.{slice_get, sym, ap, ◌∙◌}
use Rattle.cx_text.proofs.ListLaws.{read_at}
use Rattle.cx_eval.proofs.SourceLemmas.{part_listed}
use Rattle.cx_eval.proofs.leaves.listed_at.Goals as goal

pub returns-clause-found : goal.returns-clause-found
returns-clause-found c = λ i h. part_listed i c.args.of.now c.args.of.now.active.now (record { number = c.args.number; found_by = c.found_by.result }) h
    (record {
      port = c.in_ok-port.port.now;
      stands = ap (λ xs. slice_get xs c.args.number) (sym c.deref.ensures.value) ∙ read_at c.deref.result.now c.args.number c.in_ok-port.port.now c.in_ok-port.ensures.lookup.3.0 c.in_ok-port.ensures.lookup.1;
      plan = c.in_ok-plan.plan.now;
      there = ap (λ xs. slice_get xs c.args.number) (sym c.deref-2.ensures.value) ∙ c.in_ok-plan.ensures.some;
      found_by = c.found_by.ensures.value;
    })
