use Rattle.std.proofs.Common.{◌≡◌, ◌++◌, drop, map}
use Rattle.cx_design.specs.PlainForms.{plain_group}
use Rattle.cx_rewrites.specs.Moving.{moved_group}
use Rattle.cx_design_copies.proofs.wires.moved_groups.Given as goal

-- the groups so far, and those that are left, are all
abbrev pub invariant-loop-group : goal.invariant-loop-group
invariant-loop-group g l =
    map plain_group l.copies.items ++ map (moved_group (g.M.PortMoves.moving l.moves)) (map plain_group (drop l.group-index l.groups)) ≡ map (moved_group (g.M.PortMoves.moving l.moves)) (map plain_group l.groups)
