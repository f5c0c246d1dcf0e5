-- An island in the net: its timers are cells, each static if has a wire and a register, each enable a wire.
use Rattle.std.specs.Prelude.{ℕ, suc, ◌+◌, ◌-◌, ◌^◌, ◌%◌, List, [], ◌∷◌, ◌++◌, length, map, take, Option, Some, None, slice_get, option_map, unwrap_or, if◌then◌else◌}
use Rattle.cx_meaning.specs.declared.ports.PortRef.TheVariants as ports
use Rattle.cx_meaning.specs.declared.ports.Comparison.TheVariants.{Less, AtLeast}
use Rattle.cx_net.specs.Nets.{PlainNetExpr, OfPort, OfRegister, OfWire, Inverse, AllOf, Sum, Compares, exprs_of, ToPort, ToRegister, ToWire, ToHole, PlainNetDriver}
use Rattle.cx_static.specs.declared.islands.Sample.{Sample}
use Rattle.cx_static.specs.declared.islands.IslandTimer.{IslandTimer}
use Rattle.cx_static.specs.Islands.{PlainPoint, PlainOccurrence, PlainIsland}
use Rattle.cx_wiring.specs.Parts.{literal, word, one, both, equals, drive, connect}
use Rattle.cx_wiring.specs.Stands.{Stand, at, ends}

-- the wires of an island: that each timer runs, the sample of each static if, that each enable is active
abbrev pub wires_of_island : PlainIsland → ℕ
wires_of_island island = length island.timers + length island.points + length island.occurrences

abbrev pub island_wires : List PlainIsland → ℕ
island_wires [] = 0
island_wires (island ∷ rest) = wires_of_island island + island_wires rest

-- the first wire of an island; the wires of the groups' offsets come first
abbrev pub first_of_island : ℕ → List PlainIsland → ℕ → ℕ
first_of_island groups islands k = groups + island_wires (take k islands)

-- an island of a component of so many groups, where its statement stands, with the first of its wires
module _ (groups : ℕ) (x : Stand) (first : ℕ) (island : PlainIsland) where
  abbrev pub timer_cell : ℕ → ℕ
  timer_cell t = unwrap_or (option_map (λ timer. timer.cell) (slice_get island.timers t)) 0

  -- a timer runs; its count; the first one is done
  abbrev pub runs : ℕ → PlainNetExpr
  runs t = OfWire (first + t)

  abbrev pub count : ℕ → PlainNetExpr
  count t = OfPort (ports.Cell (timer_cell t) 1)

  abbrev pub island_done : PlainNetExpr
  island_done = OfPort (ports.Cell (timer_cell 0) 2)

  abbrev pub sample_wire : ℕ → ℕ
  sample_wire p = first + length island.timers + p

  abbrev pub active_wire : ℕ → ℕ
  active_wire o = first + length island.timers + length island.points + o

  -- a timer runs and has a count from the first to before the second
  abbrev pub in_range : ℕ → ℕ → ℕ → List PlainNetExpr
  in_range t from to = runs t ∷ Compares AtLeast (count t) (word from) ∷ Compares Less (count t) (word to) ∷ []

  -- TIMERS. The first one runs while control stands at the island and it is not done, another one in its range of the timer
  -- around it
  abbrev pub timer_runs : ℕ → Option ℕ → ℕ → ℕ → PlainNetExpr
  timer_runs cell None from to = both (at x) (Inverse (OfPort (ports.Cell cell 2)))
  timer_runs cell (Some outer) from to = AllOf (exprs_of (in_range outer from to))

  abbrev pub timer_drivers : ℕ → List IslandTimer → List PlainNetDriver
  timer_drivers t [] = []
  timer_drivers t (timer ∷ rest) =
      connect (first + t) (timer_runs timer.cell timer.outer timer.from timer.to)
      ∷ drive (ToPort (ports.Cell timer.cell 0)) (runs t) one
      ∷ timer_drivers (suc t) rest

  -- SAMPLES. Where a static if begins, and those around it go to it, its sample is its port, and later what the register has kept of
  -- it, which forgets it in the last active cycle of the island
  abbrev pub as_wanted : Sample → PlainNetExpr
  as_wanted s = if s.wanted then OfWire (sample_wire s.point) else Inverse (OfWire (sample_wire s.point))

  abbrev pub begins : PlainPoint → PlainNetExpr
  begins p = AllOf (exprs_of (runs p.timer ∷ equals (count p.timer) p.at ∷ map as_wanted p.samples))

  abbrev pub in_last_cycle : PlainNetExpr
  in_last_cycle = both (at x) (equals (count 0) (island.length - 1))

  abbrev pub point_drivers : ℕ → List PlainPoint → List PlainNetDriver
  point_drivers n [] = []
  point_drivers n (p ∷ rest) =
      drive (ToWire (sample_wire n)) (begins p) (OfPort p.port)
      ∷ connect (sample_wire n) (OfRegister (x.register + n))
      ∷ drive (ToRegister (x.register + n)) in_last_cycle (literal 1 0)
      ∷ drive (ToRegister (x.register + n)) (begins p) (OfPort p.port)
      ∷ point_drivers (suc n) rest

  -- ENABLES. A group is active in a range of a timer where the samples are as wanted; its offset is counted from the first
  -- count of the range, modulo 2 to the 32
  abbrev pub is_active : PlainOccurrence → PlainNetExpr
  is_active o = AllOf (exprs_of (in_range o.timer o.from o.to ++ map as_wanted o.samples))

  abbrev pub offset_from : PlainOccurrence → PlainNetExpr
  offset_from o = Sum (count o.timer) (word ((2 ^ 32 - o.from) % 2 ^ 32))

  abbrev pub occurrence_drivers : ℕ → List PlainOccurrence → List PlainNetDriver
  occurrence_drivers n [] = []
  occurrence_drivers n (o ∷ rest) =
      connect (active_wire n) (is_active o)
      ∷ drive (ToHole (groups + o.group)) (OfWire (active_wire n)) one
      ∷ drive (ToWire o.group) (OfWire (active_wire n)) (offset_from o)
      ∷ occurrence_drivers (suc n) rest

  abbrev pub island_drivers : List PlainNetDriver
  island_drivers =
      ends x (both (at x) island_done)
      ∷ (timer_drivers 0 island.timers ++ (point_drivers 0 island.points ++ occurrence_drivers 0 island.occurrences))
