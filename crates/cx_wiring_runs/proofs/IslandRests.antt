-- An island of which nothing acts goes on to rest: numbers of it that are 0 are 0 after the edge.
use Rattle.std.proofs.Common.{◌≡◌, ℕ, zero, suc, ◌+◌, ◌<◌, ◌≤◌, false, [], ◌∷◌, length, Option, Some, slice_get, refl, ap, ◌∙◌, subst}
use Rattle.cx_bits.specs.BitVector.{BitVector}
use Rattle.cx_prim.specs.CellStates.{Timer}
use Rattle.cx_prim.specs.PipeRows.{timer_idle}
use Rattle.cx_meaning.specs.declared.ports.PortRef.TheVariants as ports
use Rattle.cx_meaning.specs.Designs.{PlainComponent, PlainDesign, Timed}
use Rattle.cx_meaning.specs.Instances as instances
use Rattle.cx_meaning.specs.Instances.{Cells}
use Rattle.cx_net.specs.Nets.{ToPort, ToRegister}
use Rattle.cx_net.specs.NetMeaning.{NetState, NetLook, NetAround, truth_bit}
use Rattle.cx_static.specs.declared.islands.IslandTimer.{IslandTimer}
use Rattle.cx_static.specs.Islands.{PlainIsland}
use Rattle.cx_static.specs.Lowering.{lowered_component}
use Rattle.cx_wiring.specs.Stands.{Stand}
use Rattle.cx_wiring.specs.IslandDrivers.{first_of_island, island_drivers}
use Rattle.cx_wiring.specs.Control.{timed_drivers, form_drivers}
use Rattle.cx_wiring.specs.Wiring.{groups}
use Rattle.cx_wiring.specs.PartNets.{wired_in, timers_of}
use Rattle.cx_wiring.specs.Takings.{AllIdle}
use Rattle.cx_wiring.proofs.TakingLemmas.{idle_passes}
use Rattle.cx_wiring.proofs.IslandCells.{IsListed, listed}
use Rattle.cx_wiring_cycles.specs.IslandTakes.{TakesIsland, IslandNexts}
use Rattle.cx_wiring_cycles.specs.IslandNumbers.{of_island}
use Rattle.cx_wiring_cycles.proofs.IdleNumbers.{IslandIdled}
use Rattle.cx_wiring_cycles.proofs.IslandIdles.{numbers_idle}
use Rattle.cx_wiring_cycles.proofs.TimerStates.{IsTimer}
use Rattle.cx_wiring_runs.specs.BlockNumbers.{component_numbers}
use Rattle.cx_wiring_runs.specs.Blocks.{block, Solves, after_edge}
use Rattle.cx_wiring_runs.proofs.BlockTells.{IsFineNode}
use Rattle.cx_wiring_runs.proofs.BlockIdles.{next, now_R}
use Rattle.cx_wiring_runs.proofs.NodeTimers.{timer_is, timer_edge}

module _ (d : PlainDesign) (part : PlainComponent) (cells : Cells) (fine : IsFineNode d of_island part cells) (v : NetState) (around : NetAround) (look : NetLook)
    (solves : Solves (block (wired_in d) timers_of (component_numbers of_island) (instances.Node part cells)) around v look) (k : ℕ) (x : Stand)
    (idle : AllIdle around (now_R d of_island part cells fine v around look solves) (look []) (form_drivers (groups (lowered_component part)) (lowered_component part).islands x (Timed k)))
    (nexts : IslandNexts (groups (lowered_component part)) (lowered_component part).islands around (now_R d of_island part cells fine v around look solves) (look []) (v.register []) (next d of_island part cells fine v around look solves) k x) where
  abbrev R : ℕ → Option BitVector
  R = now_R d of_island part cells fine v around look solves

  abbrev drivers_idle : PlainIsland → Type 0
  drivers_idle island =
      AllIdle around (now_R d of_island part cells fine v around look solves) (look []) (island_drivers (groups (lowered_component part)) x (first_of_island (groups (lowered_component part)) (lowered_component part).islands k) island)

  its_idle : (island : PlainIsland) → slice_get (lowered_component part).islands k ≡ Some island → drivers_idle island
  its_idle island is =
      subst (λ o. AllIdle around (now_R d of_island part cells fine v around look solves) (look []) (timed_drivers (groups (lowered_component part)) (lowered_component part).islands x k o)) is idle.1

  -- its timers come to rest
  timers_rest : (island : PlainIsland) → slice_get (lowered_component part).islands k ≡ Some island → (t : ℕ) (timer : IslandTimer) → slice_get island.timers t ≡ Some timer
      → (NetState.cell (after_edge (block (wired_in d) timers_of (component_numbers of_island) (instances.Node part cells)) around v look)) (timer.cell ∷ []) ≡ Timer 0 false
  timers_rest island is t timer at =
      timer_edge d of_island part cells fine v around look solves false k island is t timer at
      ((TakesIsland.goes nexts.taken) island is t timer at ∙ idle_passes around R (look []) (ToPort (ports.Cell timer.cell 0)) tt (Some (truth_bit false)) (island_drivers (groups (lowered_component part)) x (first_of_island (groups (lowered_component part)) (lowered_component part).islands k) island) (its_idle island is))
      ∙ ap timer_idle (IsTimer.is (timer_is d of_island part cells fine v around look solves k island is t timer at))

  -- and its samples stay
  samples_stay : (island : PlainIsland) → slice_get (lowered_component part).islands k ≡ Some island → (m : ℕ) → x.register ≤ m → m < x.register + length island.points → next d of_island part cells fine v around look solves m ≡ v.register [] m
  samples_stay island is m low high =
      let old : BitVector = record { width = 1; value = v.register [] m } in
      nexts.samples island is m old old low high refl (idle_passes around R (look []) (ToRegister m) tt (Some old) (island_drivers (groups (lowered_component part)) x (first_of_island (groups (lowered_component part)) (lowered_component part).islands k) island) (its_idle island is))

  idled_so : IslandIdled (of_island part v x.register k) (of_island part (after_edge (block (wired_in d) timers_of (component_numbers of_island) (instances.Node part cells)) around v look) x.register k)
  idled_so =
      numbers_idle (lowered_component part).part.cells (λ c. v.cell (c ∷ [])) (λ c. (NetState.cell (after_edge (block (wired_in d) timers_of (component_numbers of_island) (instances.Node part cells)) around v look)) (c ∷ []))
      (v.register []) (next d of_island part cells fine v around look solves) (slice_get (lowered_component part).islands k) x.register
      (λ island is. IsListed.some (listed part k island is)) timers_rest samples_stay

  -- AN ISLAND RESTS
  pub island_rests : (n : ℕ) → of_island part v x.register k n ≡ 0 → of_island part (after_edge (block (wired_in d) timers_of (component_numbers of_island) (instances.Node part cells)) around v look) x.register k n ≡ 0
  island_rests zero e = idled_so.count
  island_rests (suc zero) e = idled_so.done
  island_rests (suc (suc j)) e = idled_so.samples j ∙ e
