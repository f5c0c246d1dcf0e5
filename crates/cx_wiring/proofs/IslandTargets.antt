-- What the drivers of an island drive: ports, its wires, its samples' registers, the offsets and goes of groups.
use Rattle.std.proofs.Common.{ℕ, zero, suc, ◌+◌, ◌<◌, ◌≤◌, List, [], ◌∷◌, length, take, slice_get, Option, Some, None, arith}
use Rattle.cx_meaning.specs.declared.ports.PortRef.{PortRef}
use Rattle.cx_net.specs.Nets.{PlainNetTarget, ToPort, ToRegister, ToWire, ToHole}
use Rattle.cx_static.specs.declared.islands.IslandTimer.{IslandTimer}
use Rattle.cx_static.specs.Islands.{PlainPoint, PlainOccurrence, PlainIsland}
use Rattle.cx_wiring.specs.Stands.{Stand}
use Rattle.cx_wiring.specs.IslandDrivers.{wires_of_island, island_wires, timer_drivers, point_drivers, occurrence_drivers, island_drivers}
use Rattle.cx_wiring.specs.Bounds.{AllDrive, OccurrencesName}
use Rattle.cx_wiring.proofs.RoomLemmas.{drive_both}

abbrev pub wires_at : Option PlainIsland → ℕ
wires_at None = 0
wires_at (Some island) = wires_of_island island

-- an island's wires are among those of all
pub island_within : (islands : List PlainIsland) (k : ℕ) → island_wires (take k islands) + wires_at (slice_get islands k) ≤ island_wires islands
island_within [] zero = omega arith
island_within [] (suc k) = omega arith
island_within (island ∷ rest) zero = omega arith
island_within (island ∷ rest) (suc k) = let h : island_wires (take k rest) + wires_at (slice_get rest k) ≤ island_wires rest = island_within rest k in omega arith

module _ (P : PlainNetTarget → Type 0) (port : (p : PortRef) → P (ToPort p)) (groups : ℕ) (x : Stand) (first : ℕ) (island : PlainIsland)
    (wires : (n : ℕ) → first ≤ n → n < first + wires_of_island island → P (ToWire n)) where
  pub timers_drive : (t : ℕ) (rest : List IslandTimer) → t + length rest ≤ length island.timers → AllDrive P (timer_drivers groups x first island t rest)
  timers_drive t [] h = tt
  timers_drive t (timer ∷ rest) h =
      let low : first ≤ first + t = omega arith in
      let high : first + t < first + wires_of_island island = omega arith in
      let less : suc t + length rest ≤ length island.timers = omega arith in
      (wires (first + t) low high, (port _, timers_drive (suc t) rest less))

  module _ (kept : (n : ℕ) → x.register ≤ n → n < x.register + length island.points → P (ToRegister n)) where
    pub points_drive : (n : ℕ) (rest : List PlainPoint) → n + length rest ≤ length island.points → AllDrive P (point_drivers groups x first island n rest)
    points_drive n [] h = tt
    points_drive n (p ∷ rest) h =
        let low : first ≤ first + length island.timers + n = omega arith in
        let high : first + length island.timers + n < first + wires_of_island island = omega arith in
        let from : x.register ≤ x.register + n = omega arith in
        let to : x.register + n < x.register + length island.points = omega arith in
        let less : suc n + length rest ≤ length island.points = omega arith in
        let wire = wires (first + length island.timers + n) low high in
        let register = kept (x.register + n) from to in
        (wire, (wire, (register, (register, points_drive (suc n) rest less))))

  module _ (offset : (g : ℕ) → g < groups → P (ToWire g)) (go : (g : ℕ) → g < groups → P (ToHole (groups + g))) where
    pub occurrences_drive : (n : ℕ) (rest : List PlainOccurrence) → n + length rest ≤ length island.occurrences → OccurrencesName groups rest
        → AllDrive P (occurrence_drivers groups x first island n rest)
    occurrences_drive n [] h names = tt
    occurrences_drive n (o ∷ rest) h names =
        let low : first ≤ first + length island.timers + length island.points + n = omega arith in
        let high : first + length island.timers + length island.points + n < first + wires_of_island island = omega arith in
        let less : suc n + length rest ≤ length island.occurrences = omega arith in
        (wires (first + length island.timers + length island.points + n) low high, (go o.group names.0, (offset o.group names.0, occurrences_drive (suc n) rest less names.1)))

  -- THE DRIVERS OF AN ISLAND
  pub island_drives : P (ToWire (suc x.wire)) → ((n : ℕ) → x.register ≤ n → n < x.register + length island.points → P (ToRegister n)) → ((g : ℕ) → g < groups → P (ToWire g))
      → ((g : ℕ) → g < groups → P (ToHole (groups + g))) → OccurrencesName groups island.occurrences → AllDrive P (island_drivers groups x first island)
  island_drives end kept offset go names =
      let no_timer : 0 + length island.timers ≤ length island.timers = omega arith in
      let no_point : 0 + length island.points ≤ length island.points = omega arith in
      let no_occurrence : 0 + length island.occurrences ≤ length island.occurrences = omega arith in
      (end, drive_both P _ _ (timers_drive 0 island.timers no_timer) (drive_both P _ _ (points_drive kept 0 island.points no_point) (occurrences_drive offset go 0 island.occurrences no_occurrence names)))
