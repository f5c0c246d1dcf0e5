use Rattle.std.proofs.Common.{◌≡◌, ◌+◌, ◌++◌, drop, map}
use Rattle.cx_static.specs.PlainLowered.{plain_island}
use Rattle.cx_wiring.specs.IslandDrivers.{island_wires}
use Rattle.cx_fsm.specs.PlainStands.{firsts_from}
use Rattle.cx_fsm.proofs.plans.plan_of.Given as goal

-- the first wires so far, and those of the islands that are left, are all
abbrev pub invariant-loop-island : goal.invariant-loop-island
invariant-loop-island l =
    let rest = map plain_island (drop l.island-index l.islands) in
    let whole = map plain_island l.islands in
    record {
      firsts : l.firsts.items ++ firsts_from l.control rest ≡ firsts_from l.groups whole;
      control : l.control + island_wires rest ≡ l.groups + island_wires whole;
    }
