use Rattle.std.proofs.Common.{◌≡◌, ◌++◌, drop, map}
use Rattle.cx_design.specs.PlainForms.{plain_guard}
use Rattle.cx_rewrites.specs.Moving.{moved_guard}
use Rattle.cx_design_copies.proofs.wires.+guard.Given as goal

-- the guards so far, and those of the parts that are left, are all
abbrev pub invariant-moved_guards-loop-guard : goal.invariant-moved_guards-loop-guard
invariant-moved_guards-loop-guard g l =
    map plain_guard l.copies.items ++ map (moved_guard (g.M.PortMoves.moving l.moves)) (map plain_guard (drop l.guard-index l.guards)) ≡ map (moved_guard (g.M.PortMoves.moving l.moves)) (map plain_guard l.guards)
