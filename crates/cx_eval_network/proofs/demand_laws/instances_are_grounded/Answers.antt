use Rattle.cx_eval_network.proofs.GroundLemmas.{grounded}
use Rattle.cx_eval_network.proofs.demand_laws.instances_are_grounded.Goals as goal

pub returns : goal.returns
returns c nodes leads acyclic on = grounded nodes leads on acyclic
