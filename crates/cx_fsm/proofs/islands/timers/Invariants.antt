use Rattle.std.proofs.Common.{drop}
use Rattle.cx_wiring.specs.IslandDrivers.{timer_drivers}
use Rattle.cx_fsm.specs.Drafts.{AddsRest}
use Rattle.cx_fsm.specs.Places.{at_place}
use Rattle.cx_fsm.proofs.islands.timers.Given as goal

-- the drivers so far, and those of what is left, are all
abbrev pub invariant-loop-number : goal.invariant-loop-number
invariant-loop-number l =
    AddsRest l.initial.draft l.draft
    (at_place timer_drivers l.place l.number (drop l.number l.place.island.now.timers.items))
    (at_place timer_drivers l.place 0 l.place.island.now.timers.items)
