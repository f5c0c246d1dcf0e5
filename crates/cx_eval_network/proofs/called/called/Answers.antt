use Rattle.cx_design.specs.PlainForms.{plain_component}
use Rattle.cx_design.specs.PlainDesigns.{plain_design}
use Rattle.cx_eval_network.proofs.StepLemmas.{calls_none}
use Rattle.cx_eval_network.proofs.called.called.Goals as goal

pub returns-in-None : goal.returns-in-None
returns-in-None c = record { value = calls_none (plain_design c.args.design.now) c.args.number c.args.group (plain_component c.component.result.now) c.component.ensures.value c.in-None.ensures.none }
