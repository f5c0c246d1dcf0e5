use Rattle.std.proofs.Common.{◌≡◌, Some, slice_get, sym, ap, ◌∙◌, arith}
use Rattle.cx_design_leads.proofs.NodeLemmas.{within}
use Rattle.cx_rules.specs.Ports.{component_of}
use Rattle.cx_eval_network.proofs.FoundLemmas.{get_none}
use Rattle.cx_eval_network.proofs.numbering.Nodes.plan.Goals as goal

pub returns-in-Some-port_plan-clause-some : goal.returns-in-Some-port_plan-clause-some
returns-in-Some-port_plan-clause-some c = λ d rows p h node.
    let part : slice_get c.args.self.now.plans.items c.args.component ≡ Some c.in-Some.part.now = ap (λ xs. slice_get xs c.args.component) (sym c.as_slice.ensures.value) ∙ c.in-Some.ensures.some in
    let plan : slice_get c.in-Some.part.now.ports.items c.args.number ≡ Some c.in-Some-port_plan.plan.now = ap (λ xs. slice_get xs c.args.number) (sym c.as_slice-in-Some.ensures.value) ∙ c.in-Some-port_plan.ensures.some in
    let own = h.plans.each c.args.component c.in-Some.part.now part in
    own.each c.args.number p c.in-Some-port_plan.plan.now plan node

pub returns-in-None-port_plan-clause-none : goal.returns-in-None-port_plan-clause-none
returns-in-None-port_plan-clause-none c = λ d rows p h there node.
    let part : slice_get c.args.self.now.plans.items c.args.component ≡ Some c.in-Some.part.now = ap (λ xs. slice_get xs c.args.component) (sym c.as_slice.ensures.value) ∙ c.in-Some.ensures.some in
    let own = h.plans.each c.args.component c.in-Some.part.now part in
    let past = get_none c.in-Some.part.now.ports.items c.args.number (ap (λ xs. slice_get xs c.args.number) (sym c.as_slice-in-Some.ensures.value) ∙ c.in-None-port_plan.ensures.none) in
    let below = within (component_of d c.args.component) p c.args.number node in
    let sized = own.sized in
    omega (arith, past, below, sized)

pub returns-in-None-clause-none : goal.returns-in-None-clause-none
returns-in-None-clause-none c = λ d rows p h there node.
    let past = get_none c.args.self.now.plans.items c.args.component (ap (λ xs. slice_get xs c.args.component) (sym c.as_slice.ensures.value) ∙ c.in-None.ensures.none) in
    let count = h.plans.count in
    omega (arith, past, count, there)
