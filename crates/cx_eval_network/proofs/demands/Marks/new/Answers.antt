use Rattle.cx_eval_network.proofs.StampLemmas.{all_unseen, unseen_ready}
use Rattle.cx_eval_network.proofs.demands.Marks.new.Goals as goal

pub returns-clause-unseen : goal.returns-clause-unseen
returns-clause-unseen c = all_unseen c.in_ok-new.field-0 c.args.count c.in_ok-new.ensures.value

pub returns-clause-ready : goal.returns-clause-ready
returns-clause-ready c = λ value. unseen_ready value c.in_ok-new.field-0 (all_unseen c.in_ok-new.field-0 c.args.count c.in_ok-new.ensures.value)
