use Rattle.std.proofs.Common.{Option, refl, sym, subst}
use Rattle.cx_meaning.specs.declared.sights.Seen.TheVariants.{Undefined}
use Rattle.cx_eval_network.specs.declared.network.Found.TheVariants.{Worth}
use Rattle.cx_eval_network.specs.Demands.{Looked}
use Rattle.cx_eval_network.specs.declared.numbering.NodePort.{NodePort}
use Rattle.cx_eval_network.specs.Networks.{leads_of, value_of}
use Rattle.cx_eval_network.specs.Askings.{asked_of}
use Rattle.cx_eval_network.proofs.AskLemmas.{asked_at, found_asked}
use Rattle.cx_eval_network.proofs.looking.look_at_node.Goals as goal

pub look_at_port-requires-clause-found : goal.look_at_port-requires-clause-found
look_at_port-requires-clause-found c = found_asked (asked_of c.args.asking.now) c.args.asking.now.nodes.now c.requires.can.can.network c.args.node c.in-Some.found (sym c.in-Some.ensures.value)

pub look_at_port-requires-clause-node : goal.look_at_port-requires-clause-node
look_at_port-requires-clause-node c = asked_at (asked_of c.args.asking.now) c.args.asking.now.nodes.now c.requires.can.can.network c.args.node c.in-Some.found (sym c.in-Some.ensures.value)

pub returns-in-Some : goal.returns-in-Some
returns-in-Some c =
    let a = asked_of c.args.asking.now in
    record { found = subst (λ (o : Option NodePort). Looked (leads_of a o) (value_of a o) c.args.marks.now c.look_at_port.result) c.in-Some.ensures.value c.look_at_port.ensures.found }

pub returns-in-None : goal.returns-in-None
returns-in-None c =
    let a = asked_of c.args.asking.now in
    record { found = subst (λ (o : Option NodePort). Looked (leads_of a o) (value_of a o) c.args.marks.now (Worth Undefined)) c.in-None.ensures.value refl }
