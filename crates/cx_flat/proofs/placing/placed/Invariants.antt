use Rattle.std.proofs.Common.{◌≡◌, ◌++◌, drop}
use Rattle.cx_flat.specs.Placing.{placed_by, placed_list, plain_places}
use Rattle.cx_flat.proofs.placing.placed.Given as goal

-- where the places so far stand, and where those that are left do, are all
abbrev pub invariant-loop-place : goal.invariant-loop-place
invariant-loop-place l = plain_places l.all.items ++ placed_list (placed_by l.placing) (plain_places (drop l.place-index l.places)) ≡ placed_list (placed_by l.placing) (plain_places l.places)
