-- What the types of a lowered design stand for, as plain data.
use Rattle.std.specs.Prelude.{ℕ, List, map}
use Rattle.cx_design.specs.PlainForms.{plain_cell, plain_component}
use Rattle.cx_static.specs.Islands.{PlainPoint, PlainOccurrence, PlainIsland, PlainLowered, PlainLowereds}
use Rattle.cx_static.specs.Lowering.{Gathered, Begin, begin_at, Lowering as PlainLowering}
use Rattle.cx_static.specs.declared.gathering.Gathering.{Gathering}
use Rattle.cx_static.specs.declared.gathering.Start.{Start}
use Rattle.cx_static.specs.declared.islands.SamplePoint.{SamplePoint}
use Rattle.cx_static.specs.declared.islands.Occurrence.{Occurrence}
use Rattle.cx_static.specs.declared.islands.Island.{Island}
use Rattle.cx_static.specs.declared.lowering.Lowering.{Lowering}
use Rattle.cx_static.specs.declared.lowered.LoweredComponent.{LoweredComponent}
use Rattle.cx_static.specs.declared.lowered.Lowered.{Lowered}

abbrev pub plain_point : SamplePoint → PlainPoint
plain_point p = record { port = p.port; timer = p.timer; at = p.at; samples = p.samples.items }

abbrev pub plain_occurrence : Occurrence → PlainOccurrence
plain_occurrence o = record { group = o.group; timer = o.timer; from = o.from; to = o.to; samples = o.samples.items }

abbrev pub plain_island : Island → PlainIsland
plain_island i = record {
  length = i.length;
  timers = i.timers.items;
  points = map plain_point i.points.items;
  occurrences = map plain_occurrence i.occurrences.items;
}

abbrev pub plain_gathering : Gathering → Gathered
plain_gathering g = record {
  cells = map plain_cell g.cells.items;
  timers = g.timers.items;
  points = map plain_point g.points.items;
  occurrences = map plain_occurrence g.occurrences.items;
}

abbrev pub plain_start : Start → Begin
plain_start x = begin_at x.timer x.at x.samples.now

abbrev pub plain_lowering : Lowering → PlainLowering
plain_lowering l = record { cells = map plain_cell l.cells.items; islands = map plain_island l.islands.items }

abbrev pub plain_lowered : LoweredComponent → PlainLowered
plain_lowered c = record { part = plain_component c.part; islands = map plain_island c.islands.items }

-- the lowered design of these components and this main
abbrev pub lowered_of_parts : List LoweredComponent → ℕ → PlainLowereds
lowered_of_parts components main = record { components = map plain_lowered components; main = main }

abbrev pub plain_lowereds : Lowered → PlainLowereds
plain_lowereds l = lowered_of_parts l.components.items l.main
