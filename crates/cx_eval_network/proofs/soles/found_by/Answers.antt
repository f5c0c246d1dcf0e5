use Rattle.std.proofs.Common.{sym, subst}
use Rattle.cx_eval_network.specs.Lists.{IsFoundBy, IsSource}
use Rattle.cx_eval_network.proofs.soles.found_by.Goals as goal

pub returns-in-Output : goal.returns-in-Output
returns-in-Output c = record { value = subst (λ plan. IsFoundBy c.args.active.now c.args.port plan c.output_by.result) (sym c.in-Output.is) (c.output_by.ensures.value c.args.active.now) }

pub returns-in-Some : goal.returns-in-Some
returns-in-Some c =
    let active = c.args.active.now in
    record { value = c.by_source.ensures.value active c.args.port c.args.plan.now (subst (λ plan. IsSource active plan c.in-Some.source) (sym c.in-Driven.is) c.in-Some.ensures.value) }
