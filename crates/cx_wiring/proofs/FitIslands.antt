-- The drivers of an island fit where what it names does.
use Rattle.std.proofs.Common.{◌≡◌, ℕ, suc, ◌+◌, ◌-◌, ◌<◌, ◌≤◌, Bool, true, false, if◌then◌else◌, List, [], ◌∷◌, ◌++◌, Option, Some, None, length, map, slice_get, refl, ap, sym, subst, arith}
use Rattle.std.specs.Prelude.{◌^◌, ◌%◌, option_map, unwrap_or}
use Rattle.std.proofs.lemmas.Bool.{lt-ltb}
use Rattle.std.proofs.lemmas.Nat.{mod_below}
use Rattle.cx_meaning.specs.Designs.{PlainCell}
use Rattle.cx_net.specs.Nets.{OfRegister, OfWire, Inverse, ToWire, ToHole, PlainNetComponent, PlainNet}
use Rattle.cx_net.specs.NetFits.{HasWidth, target_width}
use Rattle.cx_static.specs.declared.islands.Sample.{Sample}
use Rattle.cx_static.specs.declared.islands.IslandTimer.{IslandTimer}
use Rattle.cx_static.specs.Islands.{PlainPoint, PlainOccurrence, PlainIsland}
use Rattle.cx_wiring.specs.Parts.{both}
use Rattle.cx_wiring.specs.Stands.{Stand, at}
use Rattle.cx_wiring.specs.IslandDrivers.{wires_of_island, timer_cell, runs, count, island_done, sample_wire, active_wire, in_range, timer_runs, timer_drivers, begins, in_last_cycle, point_drivers, as_wanted, is_active, offset_from, occurrence_drivers, island_drivers}
use Rattle.cx_wiring.specs.Wiring.{cell_in}
use Rattle.cx_wiring.specs.Fitting.{IsTimer, TimerFits, SampleFits, OccurrenceFits, OuterFits, PointFits, IslandFits, Drives}
use Rattle.cx_wiring.proofs.FitLemmas.{are_at, word_width, bit_width, bits_of, timer_port}
use Rattle.cx_wiring.proofs.FitGuards.{IsBit, AllDrive, one_fits, connects}
use Rattle.cx_text.proofs.ListLaws.{there_at}
use Rattle.cx_text.specs.Members.{Each}
use Rattle.cx_text.proofs.MemberLaws.{each_append}

module _ (net : PlainNet) (part : PlainNetComponent) where
  pub hole_width : (n : ℕ) → n < part.holes → target_width net part (ToHole n) ≡ Some 1
  hole_width n less = ap (λ b. if b then Some 1 else None) (lt-ltb n part.holes less)

  module _ (numbers : List ℕ) (cells : List PlainCell) (same : part.cells ≡ map (cell_in numbers) cells) (groups : ℕ) (offset : (g : ℕ) → g < groups → slice_get part.wires g ≡ Some 32)
      (goes : (g : ℕ) → g < groups → groups + g < part.holes) (x : Stand) (first : ℕ) (island : PlainIsland) (fits : IslandFits net part groups cells island) (standing : IsBit net part (ToWire x.wire))
      (ending : IsBit net part (ToWire (suc x.wire))) (wires : (n : ℕ) → first ≤ n → n < first + wires_of_island island → IsBit net part (ToWire n))
      (kept : (n : ℕ) → n < length island.points → slice_get part.registers (x.register + n) ≡ Some 1) where
    abbrev timers : ℕ
    timers = length island.timers

    is_timer : (t : ℕ) → t < timers → IsTimer cells (timer_cell groups x first island t)
    is_timer t less =
        let r = there_at island.timers t less in
        subst (λ o. IsTimer cells (unwrap_or (option_map (λ (timer : IslandTimer). timer.cell) o) 0)) (sym r.1) (are_at (TimerFits cells timers) island.timers fits.timers t r.0 r.1).cell

    runs_fits : (t : ℕ) → t < timers → HasWidth net part (runs groups x first island t) 1
    runs_fits t less =
        let low : first ≤ first + t = omega arith in
        let high : first + t < first + wires_of_island island = omega arith in
        wires (first + t) low high

    count_fits : (t : ℕ) → t < timers → HasWidth net part (count groups x first island t) 32
    count_fits t less = timer_port net part numbers cells same (timer_cell groups x first island t) 1 32 (is_timer t less) refl

    range_fits : (t from to : ℕ) → t < timers → from < 2 ^ 32 → to < 2 ^ 32 → Each (λ e. HasWidth net part e 1) (in_range groups x first island t from to)
    range_fits t from to less low high =
        (runs_fits t less, ((refl, (32, count_fits t less, word_width from low)), ((refl, (32, count_fits t less, word_width to high)), tt)))

    -- TIMERS
    runs_when : (cell : ℕ) (outer : Option ℕ) (from to : ℕ) → IsTimer cells cell → OuterFits timers outer → from < 2 ^ 32 → to < 2 ^ 32 → HasWidth net part (timer_runs groups x first island cell outer from to) 1
    runs_when cell None from to t out low high = (refl, (standing, (timer_port net part numbers cells same cell 2 1 t refl, tt)))
    runs_when cell (Some outer) from to t out low high = (refl, bits_of net part (in_range groups x first island outer from to) (range_fits outer from to out low high))

    timers_fit : (t : ℕ) (rest : List IslandTimer) → t + length rest ≤ timers → Each (TimerFits cells timers) rest → AllDrive net part (timer_drivers groups x first island t rest)
    timers_fit t [] few fit = tt
    timers_fit t (timer ∷ rest) few fit =
        let less : t < timers = omega arith in
        let next : suc t + length rest ≤ timers = omega arith in (
          connects net part (first + t) (timer_runs groups x first island timer.cell timer.outer timer.from timer.to) (runs_fits t less)
              (runs_when timer.cell timer.outer timer.from timer.to fit.0.cell fit.0.outer fit.0.from fit.0.to),
          (
            record { proper = tt; guard = runs_fits t less; width = 1; target = timer_port net part numbers cells same timer.cell 0 1 fit.0.cell refl; source = one_fits net part },
            timers_fit (suc t) rest next fit.1,
          ),
        )

    -- SAMPLES
    sample_fits : (n : ℕ) → n < length island.points → IsBit net part (ToWire (sample_wire groups x first island n))
    sample_fits n less =
        let low : first ≤ first + length island.timers + n = omega arith in
        let high : first + length island.timers + n < first + wires_of_island island = omega arith in
        wires (first + length island.timers + n) low high

    wanted : (b : Bool) (wire : ℕ) → IsBit net part (ToWire wire) → HasWidth net part (if b then OfWire wire else Inverse (OfWire wire)) 1
    wanted true wire bit = bit
    wanted false wire bit = bit

    samples_fit : (ss : List Sample) → Each (SampleFits (length island.points)) ss → Each (λ e. HasWidth net part e 1) (map (as_wanted groups x first island) ss)
    samples_fit [] fit = tt
    samples_fit (s ∷ ss) fit = (wanted s.wanted (sample_wire groups x first island s.point) (sample_fits s.point fit.0), samples_fit ss fit.1)

    begins_fits : (p : PlainPoint) → PointFits net part timers (length island.points) p → HasWidth net part (begins groups x first island p) 1
    begins_fits p fit = (
      refl,
      (runs_fits p.timer fit.timer, ((refl, (32, count_fits p.timer fit.timer, word_width p.at fit.at)), bits_of net part (map (as_wanted groups x first island) p.samples) (samples_fit p.samples fit.samples))),
    )

    last_fits : HasWidth net part (in_last_cycle groups x first island) 1
    last_fits =
        let some : 0 < timers = fits.first in
        let long : island.length < 2 ^ 32 = fits.length_few in
        let few : island.length - 1 < 2 ^ 32 = omega arith in
        (refl, (standing, ((refl, (32, count_fits 0 some, word_width (island.length - 1) few)), tt)))

    points_fit : (n : ℕ) (rest : List PlainPoint) → n + length rest ≤ length island.points → Each (PointFits net part timers (length island.points)) rest → AllDrive net part (point_drivers groups x first island n rest)
    points_fit n [] few fit = tt
    points_fit n (p ∷ rest) few fit =
        let less : n < length island.points = omega arith in
        let next : suc n + length rest ≤ length island.points = omega arith in (
          record { proper = tt; guard = begins_fits p fit.0; width = 1; target = sample_fits n less; source = fit.0.port },
          (
            connects net part (sample_wire groups x first island n) (OfRegister (x.register + n)) (sample_fits n less) (kept n less),
            (
              record { proper = tt; guard = last_fits; width = 1; target = kept n less; source = bit_width (record { width = 1; value = 0 }) refl (omega arith) },
              (record { proper = tt; guard = begins_fits p fit.0; width = 1; target = kept n less; source = fit.0.port }, points_fit (suc n) rest next fit.1),
            ),
          ),
        )

    -- ENABLES
    active_fits : (o : PlainOccurrence) → OccurrenceFits groups timers (length island.points) o → HasWidth net part (is_active groups x first island o) 1
    active_fits o fit = (
      refl,
      bits_of net part (in_range groups x first island o.timer o.from o.to ++ map (as_wanted groups x first island) o.samples)
          (each_append (λ e. HasWidth net part e 1) (in_range groups x first island o.timer o.from o.to) (map (as_wanted groups x first island) o.samples) (range_fits o.timer o.from o.to fit.timer fit.from fit.to)
          (samples_fit o.samples fit.samples)),
    )

    offset_fits : (o : PlainOccurrence) → OccurrenceFits groups timers (length island.points) o → HasWidth net part (offset_from groups x first island o) 32
    offset_fits o fit = (count_fits o.timer fit.timer, word_width ((2 ^ 32 - o.from) % 2 ^ 32) (mod_below (2 ^ 32 - o.from) (2 ^ 32) (omega arith)))

    occurrences_fit : (n : ℕ) (rest : List PlainOccurrence) → n + length rest ≤ length island.occurrences → Each (OccurrenceFits groups timers (length island.points)) rest
        → AllDrive net part (occurrence_drivers groups x first island n rest)
    occurrences_fit n [] few fit = tt
    occurrences_fit n (o ∷ rest) few fit =
        let low : first ≤ first + length island.timers + length island.points + n = omega arith in
        let high : first + length island.timers + length island.points + n < first + wires_of_island island = omega arith in
        let next : suc n + length rest ≤ length island.occurrences = omega arith in
        let active : IsBit net part (ToWire (active_wire groups x first island n)) = wires (first + length island.timers + length island.points + n) low high in (
          connects net part (active_wire groups x first island n) (is_active groups x first island o) active (active_fits o fit.0),
          (
            record { proper = tt; guard = active; width = 1; target = hole_width (groups + o.group) (goes o.group fit.0.group); source = one_fits net part },
            (record { proper = tt; guard = active; width = 32; target = offset o.group fit.0.group; source = offset_fits o fit.0 }, occurrences_fit (suc n) rest next fit.1),
          ),
        )

    -- THE DRIVERS OF AN ISLAND
    pub island_fits : AllDrive net part (island_drivers groups x first island)
    island_fits =
        let done : HasWidth net part (island_done groups x first island) 1 = timer_port net part numbers cells same (timer_cell groups x first island 0) 2 1 (is_timer 0 fits.first) refl in
        let no_timer : 0 + length island.timers ≤ timers = omega arith in
        let no_point : 0 + length island.points ≤ length island.points = omega arith in
        let no_occurrence : 0 + length island.occurrences ≤ length island.occurrences = omega arith in (
          connects net part (suc x.wire) (both (at x) (island_done groups x first island)) ending (refl, (standing, (done, tt))),
          each_append (Drives net part) (timer_drivers groups x first island 0 island.timers) (point_drivers groups x first island 0 island.points ++ occurrence_drivers groups x first island 0 island.occurrences)
              (timers_fit 0 island.timers no_timer fits.timers)
              (each_append (Drives net part) (point_drivers groups x first island 0 island.points) (occurrence_drivers groups x first island 0 island.occurrences) (points_fit 0 island.points no_point fits.points)
              (occurrences_fit 0 island.occurrences no_occurrence fits.occurrences)),
        )
