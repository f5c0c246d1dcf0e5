use Rattle.std.proofs.Common.{◌≡◌, ◌++◌, drop, map}
use Rattle.cx_design.specs.PlainForms.{plain_guard}
use Rattle.cx_eval_network.specs.Planned.{guard_plan, numbered_guard}
use Rattle.cx_eval_network.specs.Plans.{instance_of}
use Rattle.cx_eval_network.proofs.planning.+guard.Given as goal

-- the guards so far, and those of the parts that are left, are all
abbrev pub invariant-planned_guards-loop-guard : goal.invariant-planned_guards-loop-guard
invariant-planned_guards-loop-guard l =
    map numbered_guard l.planned.items ++ map (guard_plan (instance_of l.part)) (map plain_guard (drop l.guard-index l.guards)) ≡ map (guard_plan (instance_of l.part)) (map plain_guard l.guards)
