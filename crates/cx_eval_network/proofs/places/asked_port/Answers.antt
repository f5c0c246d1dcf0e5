use Rattle.std.proofs.Common.{refl, ap, ◌∙◌}
use Rattle.cx_eval_network.specs.Networks as networks
use Rattle.cx_eval_network.specs.Askings.{asked_of}
use Rattle.cx_eval_network.proofs.places.asked_port.Goals as goal

pub returns-in-Some : goal.returns-in-Some
returns-in-Some c = record { value = c.if_asked.ensures.value (asked_of c.args.asking.now) refl ∙ ap (networks.asked_port (asked_of c.args.asking.now)) c.in-Some.ensures.found }
