use Rattle.cx_eval_network.specs.Plans.{instance_of}
use Rattle.cx_eval_network.proofs.planning.number_of.Goals as goal

pub returns : goal.returns
returns c = record { value = c.node.ensures.value (instance_of c.args.part.now) c.requires.part.numbered }
