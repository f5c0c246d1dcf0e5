use Rattle.std.proofs.Common.{length}
use Rattle.cx_design.specs.PlainDesigns.{plain_design}
use Rattle.cx_race.specs.Races.{AreClear}
use Rattle.cx_race.specs.RaceBreaks.{IsBefore, Looked}
use Rattle.cx_race.proofs.checking.add_component.Given as goal

-- the statements so far are looked at, and the tallies are empty
abbrev pub invariant-loop-place : goal.invariant-loop-place
invariant-loop-place l =
    Looked (plain_design l.design) (IsBefore l.number l.place) l.initial.first l.first × AreClear (length l.footprints.links.items) (length l.footprints.driven.items) l.tallies
