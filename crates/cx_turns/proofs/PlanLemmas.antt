-- What is known of the plan of an accepted design.
use Rattle.std.proofs.Common.{◌≡◌, ℕ, ◌≤◌, List, length, arith}
use Rattle.std.proofs.Math.Logic.{∥∥₁_elim}
use Rattle.cx_meaning.specs.Instances.{paths_of, tree_of}
use Rattle.cx_rules.specs.Accepted.{IsAccepted}
use Rattle.cx_rules.specs.Sizes.{instances_below}
use Rattle.cx_rules.specs.Flat.{IsFlat}
use Rattle.cx_state.proofs.TreeLemmas.{count_paths}
use Rattle.cx_state.specs.declared.tables.InstanceRow.{InstanceRow}
use Rattle.cx_state.specs.Tables.{IsTable}
use Rattle.cx_state.proofs.TableLemmas.{few_instances}
use Rattle.cx_turns.specs.GroupRows.{AreGroups}
use Rattle.cx_turns.specs.declared.plan.Plan.{Plan}
use Rattle.cx_turns.specs.Machines.{design_of, IsPlan}
use Rattle.cx_eval.proofs.DesignProp.{design_prop}

pub plan_is : (plan : Plan) → IsFlat (design_of plan) → IsAccepted (design_of plan) → IsTable (design_of plan) plan.table.rows.items plan.table.children.items
    → ((rows : List InstanceRow) (children : List ℕ) → IsTable (design_of plan) rows children → AreGroups (design_of plan) rows plan.groups.items) → IsPlan plan
plan_is plan flat accepted table groups = record {
  flat = flat;
  accepted = accepted;
  design = ∥∥₁_elim plan.design.now.keeps (design_prop (design_of plan) flat) (λ design. design);
  table = table;
  groups = groups plan.table.rows.items plan.table.children.items table;
  few = let all : length (paths_of (tree_of (design_of plan))) ≡ instances_below (tree_of (design_of plan)) = count_paths (tree_of (design_of plan)) in
      let few : instances_below (tree_of (design_of plan)) ≤ 4096 = few_instances (design_of plan) flat accepted.limits in
      omega (arith, all, few);
}
