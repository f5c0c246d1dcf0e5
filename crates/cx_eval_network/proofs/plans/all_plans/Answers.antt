use Rattle.std.proofs.Common.{◌≡◌, ◌+◌, ⊎_elim, Some, length, slice_get, sym, ap, ◌∙◌, subst}
use Rattle.std.proofs.lemmas.List.{length-append}
use Rattle.cx_graphs.proofs.Lists.{get_last}
use Rattle.cx_rules.specs.Ports.{component_of}
use Rattle.cx_design.specs.PlainDesigns.{plain_design}
use Rattle.cx_eval_network.specs.declared.planned.PartPlans.{PartPlans}
use Rattle.cx_eval_network.specs.Plans.{ArePlans}
use Rattle.cx_eval_network.proofs.plans.all_plans.Goals as goal

pub loop-component-preserved : goal.loop-component-preserved
loop-component-preserved c =
    let d = plain_design c.args.design.now in
    let n = c.loop-component.component in
    let plans = c.loop-component.plans.items in
    let sized = c.loop-component.invariant.sized in
    record {
      sized = ap length c.in_ok-push.ensures.items ∙ length-append plans _ ∙ ap (λ k. k + 1) sized;
      each = λ k more e. ⊎_elim
          (λ f. c.loop-component.invariant.each k more f)
          (λ (b : (k ≡ length plans) × (record { ports = c.in_ok-ports.ports } ≡ more)).
          subst (λ m. ArePlans (component_of d m) more.ports.items) (sym (b.0 ∙ sized)) (subst (λ (x : PartPlans). ArePlans (component_of d n) x.ports.items) b.1 c.in_ok-ports.ensures.value))
          (get_last plans (record { ports = c.in_ok-ports.ports }) more k (subst (λ xs. slice_get xs k ≡ Some more) c.in_ok-push.ensures.items e));
    }
