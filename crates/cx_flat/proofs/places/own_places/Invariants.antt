use Rattle.std.proofs.Common.{◌≡◌, map}
use Rattle.cx_flat.specs.Places.{own_places}
use Rattle.cx_flat.specs.Placing.{plain_places}
use Rattle.cx_flat.proofs.places.own_places.Given as goal

abbrev pub invariant-loop-group : goal.invariant-loop-group
invariant-loop-group l = map (λ g. plain_places g.items) l.groups.items ≡ own_places l.group
