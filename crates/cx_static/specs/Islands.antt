-- A design whose islands are lists, as plain data. Numbers name parts of the component, or of the island.
use Rattle.std.specs.Prelude.{ℕ, List}
use Rattle.cx_meaning.specs.declared.ports.PortRef.{PortRef}
use Rattle.cx_meaning.specs.Designs.{PlainComponent}
use Rattle.cx_static.specs.declared.islands.Sample.{Sample}
use Rattle.cx_static.specs.declared.islands.IslandTimer.{IslandTimer}

-- a static if begins where its timer has the count `at`, and looks at its port
pub record PlainPoint : Type 0 where
  pub port : PortRef
  pub timer : ℕ
  pub at : ℕ
  pub samples : List Sample

-- a group is active where its timer has a count from the first to before the second, and its samples are as wanted
pub record PlainOccurrence : Type 0 where
  pub group : ℕ
  pub timer : ℕ
  pub from : ℕ
  pub to : ℕ
  pub samples : List Sample

-- the first timer counts the whole island; points and occurrences are in source order
pub record PlainIsland : Type 0 where
  pub length : ℕ
  pub timers : List IslandTimer
  pub points : List PlainPoint
  pub occurrences : List PlainOccurrence

-- the last cells are the timers of the islands, and the control has Timed in place of each island
pub record PlainLowered : Type 0 where
  pub part : PlainComponent
  pub islands : List PlainIsland

pub record PlainLowereds : Type 0 where
  pub components : List PlainLowered
  pub main : ℕ
