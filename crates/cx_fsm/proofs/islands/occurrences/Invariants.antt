use Rattle.std.proofs.Common.{drop, map}
use Rattle.cx_static.specs.PlainLowered.{plain_occurrence}
use Rattle.cx_wiring.specs.IslandDrivers.{occurrence_drivers}
use Rattle.cx_fsm.specs.Drafts.{AddsRest}
use Rattle.cx_fsm.specs.Places.{at_place}
use Rattle.cx_fsm.proofs.islands.occurrences.Given as goal

-- the drivers so far, and those of what is left, are all
abbrev pub invariant-loop-number : goal.invariant-loop-number
invariant-loop-number l =
    AddsRest l.initial.draft l.draft
    (at_place occurrence_drivers l.place l.number (map plain_occurrence (drop l.number l.place.island.now.occurrences.items)))
    (at_place occurrence_drivers l.place 0 (map plain_occurrence l.place.island.now.occurrences.items))
