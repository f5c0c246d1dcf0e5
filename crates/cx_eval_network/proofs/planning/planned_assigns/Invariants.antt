use Rattle.std.proofs.Common.{◌≡◌, ◌++◌, drop, map}
use Rattle.cx_design_parts.specs.Plain.{plain_owned}
use Rattle.cx_eval_network.specs.Planned.{assign_plan, numbered_assign}
use Rattle.cx_eval_network.specs.Plans.{instance_of}
use Rattle.cx_eval_network.proofs.planning.planned_assigns.Given as goal

-- the assignments so far, and those that are left, are all
abbrev pub invariant-loop-owned : goal.invariant-loop-owned
invariant-loop-owned l =
    map numbered_assign l.planned.items ++ map (assign_plan (instance_of l.part)) (map plain_owned (drop l.owned-index l.assigns)) ≡ map (assign_plan (instance_of l.part)) (map plain_owned l.assigns)
