use Rattle.std.proofs.Common.{◌≡◌, ◌++◌, drop, map}
use Rattle.cx_design.specs.PlainForms.{plain_assign}
use Rattle.cx_rewrites.specs.Moving.{moved_assign}
use Rattle.cx_design_copies.proofs.wires.with_moved_assigns.Given as goal

-- the assignments so far, and those that are left, are all
abbrev pub invariant-loop-assign : goal.invariant-loop-assign
invariant-loop-assign g l =
    map plain_assign l.all.items ++ map (moved_assign (g.M.PortMoves.moving l.moves)) (map plain_assign (drop l.assign-index l.assigns))
    ≡ map plain_assign l.fn.front.items ++ map (moved_assign (g.M.PortMoves.moving l.moves)) (map plain_assign l.assigns)
