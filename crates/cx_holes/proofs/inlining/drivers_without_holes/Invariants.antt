use Rattle.std.proofs.Common.{◌≡◌, ◌++◌, drop, map}
use Rattle.cx_net.specs.PlainNets.{plain_net_driver}
use Rattle.cx_holes.specs.Inlining.{inlined_driver}
use Rattle.cx_holes.proofs.inlining.drivers_without_holes.Given as goal

-- the drivers so far, and those that are left, are all
abbrev pub invariant-loop-driver : goal.invariant-loop-driver
invariant-loop-driver l =
    map plain_net_driver l.list.items ++ map (inlined_driver l.first) (map plain_net_driver (drop l.driver-index l.drivers))
    ≡ map (inlined_driver l.first) (map plain_net_driver l.drivers)
