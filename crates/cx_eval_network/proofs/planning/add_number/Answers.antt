use Rattle.cx_eval_network.specs.Plans.{instance_of}
use Rattle.cx_eval_network.proofs.PlanLemmas.{none_added, number_added}
use Rattle.cx_eval_network.proofs.planning.add_number.Goals as goal

pub returns-in_ok-push-in-Some : goal.returns-in_ok-push-in-Some
returns-in_ok-push-in-Some c = record {
  value = number_added (instance_of c.args.part.now) c.args.found.now.items c.push.new.self.items c.args.port c.in-Some.number c.in-Some.ensures.value c.in_ok-push-in-Some.ensures.items;
}

pub returns-in-None : goal.returns-in-None
returns-in-None c = record { value = none_added (instance_of c.args.part.now) c.args.found.now.items c.args.port c.in-None.ensures.value }
