use Rattle.std.proofs.Common.{ap, ◌∙◌, subst}
use Rattle.cx_rules.specs.Ports.{component_of}
use Rattle.cx_design_leads.specs.Nodes.{node_of}
use Rattle.cx_eval_network.specs.Askings.{asked_of}
use Rattle.cx_eval_network.specs.Plans.{IsPlanOf}
use Rattle.cx_eval_network.proofs.LackLemmas.{component_within}
use Rattle.cx_eval_network.proofs.looking.found_plan.Goals as goal

pub unreachable-requires : goal.unreachable-requires
unreachable-requires c =
    let a = asked_of c.args.asking.now in
    let f = c.requires.found in
    c.in-None.ensures.none a.design a.rows c.args.found.port c.requires.can.can.network.numbered
    (component_within c.args.asking.now c.requires.can.can c.args.found f)
    (ap (λ m. node_of (component_of a.design m) c.args.found.port) f.component ∙ f.number)

pub returns : goal.returns
returns c =
    let a = asked_of c.args.asking.now in
    let f = c.requires.found in
    record {
      value = subst (λ m. IsPlanOf (component_of a.design m) c.args.found.port c.in-Some.plan.now) f.component
          (c.in-Some.ensures.some a.design a.rows c.args.found.port c.requires.can.can.network.numbered (ap (λ m. node_of (component_of a.design m) c.args.found.port) f.component ∙ f.number));
    }
