use Rattle.std.proofs.Common.{◌≡◌, ◌++◌, drop, map}
use Rattle.cx_flat.specs.Places.{plain_instances}
use Rattle.cx_flat.specs.Placing.{placed_by, placed_list}
use Rattle.cx_flat.proofs.places.with_instances.Given as goal

-- where the instances so far stand, and where those that are left do, are all
abbrev pub invariant-loop-instance : goal.invariant-loop-instance
invariant-loop-instance l =
    plain_instances l.all.items ++ map (map (placed_list (placed_by l.placing))) (plain_instances (drop l.instance-index l.instances))
    ≡ plain_instances l.fn.front.items ++ map (map (placed_list (placed_by l.placing))) (plain_instances l.instances)
