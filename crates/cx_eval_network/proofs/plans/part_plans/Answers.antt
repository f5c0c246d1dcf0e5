use Rattle.std.proofs.Common.{◌+◌, length, ap, ◌∙◌}
use Rattle.std.proofs.lemmas.List.{length-append}
use Rattle.cx_eval_network.specs.Plans.{instance_of}
use Rattle.cx_eval_network.proofs.PlanLemmas.{plans_more}
use Rattle.cx_eval_network.proofs.plans.part_plans.Goals as goal

pub plan_of-requires-clause-number : goal.plan_of-requires-clause-number
plan_of-requires-clause-number c = c.requires.ports.each c.loop-number.number c.port_at-port.result c.port_at-port.ensures.value

pub loop-number-preserved : goal.loop-number-preserved
loop-number-preserved c =
    let i = instance_of c.args.part.now in
    let n = c.loop-number.number in
    record {
      sized = ap length c.in_ok-push.ensures.items ∙ length-append c.loop-number.plans.items _ ∙ ap (λ k. k + 1) c.loop-number.invariant.sized;
      each = plans_more i c.loop-number.plans.items c.push.new.self.items n c.port_at-port.result c.in_ok-plan_of.field-0 c.loop-number.invariant.sized
          (c.requires.ports.each n c.port_at-port.result c.port_at-port.ensures.value) c.in_ok-plan_of.ensures.value c.in_ok-push.ensures.items c.loop-number.invariant.each;
    }
