use Rattle.std.proofs.Common.{subst}
use Rattle.cx_eval_network.specs.Lists.{IsSole}
use Rattle.cx_eval_network.specs.Planned.{numbered_assign}
use Rattle.cx_eval_network.proofs.SoleLemmas.{sole_source}
use Rattle.cx_eval_network.proofs.soles.acting_sole.Goals as goal

pub returns-in-Nothing : goal.returns-in-Nothing
returns-in-Nothing c = record {
  value = λ i a look own drive offset e agree rest.
      sole_source i a look own drive offset (numbered_assign c.args.assign.now) e (c.is_true.ensures.value c.if-not-is_true.false) agree
      (subst (λ sole. IsSole own sole drive) c.in-Nothing.is rest);
}
