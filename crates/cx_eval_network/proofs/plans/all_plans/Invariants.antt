use Rattle.std.proofs.Common.{◌≡◌, ℕ, Some, length, slice_get}
use Rattle.cx_rules.specs.Ports.{component_of}
use Rattle.cx_design.specs.PlainDesigns.{plain_design}
use Rattle.cx_eval_network.specs.declared.planned.PartPlans.{PartPlans}
use Rattle.cx_eval_network.specs.Plans.{ArePlans}
use Rattle.cx_eval_network.proofs.plans.all_plans.Given as goal

-- the components so far
abbrev pub invariant-loop-component : goal.invariant-loop-component
invariant-loop-component l = record {
  sized : length l.plans.items ≡ l.component;
  each : (k : ℕ) (plans : PartPlans) → slice_get l.plans.items k ≡ Some plans → ArePlans (component_of (plain_design l.design) k) plans.ports.items;
}
