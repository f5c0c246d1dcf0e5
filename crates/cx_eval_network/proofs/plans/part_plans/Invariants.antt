use Rattle.std.proofs.Common.{◌≡◌, ℕ, Some, length, slice_get}
use Rattle.cx_meaning.specs.declared.ports.PortRef.{PortRef}
use Rattle.cx_design_leads.specs.Nodes.{node_of}
use Rattle.cx_eval_network.specs.declared.planned.PortPlan.{PortPlan}
use Rattle.cx_eval_network.specs.Plans.{IsPlanOf, instance_of}
use Rattle.cx_eval_network.proofs.plans.part_plans.Given as goal

-- the plans so far
abbrev pub invariant-loop-number : goal.invariant-loop-number
invariant-loop-number l = record {
  sized : length l.plans.items ≡ l.number;
  each : (m : ℕ) (p : PortRef) (plan : PortPlan) → slice_get l.plans.items m ≡ Some plan → node_of (instance_of l.part) p ≡ Some m → IsPlanOf (instance_of l.part) p plan;
}
