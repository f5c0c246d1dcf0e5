use Rattle.std.proofs.Common.{◌≡◌, ◌++◌, drop, map}
use Rattle.cx_flat.specs.Places.{plain_instance}
use Rattle.cx_flat.specs.Placing.{placed_by, placed_list, plain_places}
use Rattle.cx_flat.proofs.places.placed_instance.Given as goal

-- where the groups so far stand, and where those that are left do, are all
abbrev pub invariant-loop-group : goal.invariant-loop-group
invariant-loop-group l =
    map (λ g. plain_places g.items) l.groups.items ++ map (placed_list (placed_by l.placing)) (map (λ g. plain_places g.items) (drop l.group-index l.instance.groups.items))
    ≡ map (placed_list (placed_by l.placing)) (plain_instance l.instance)
