-- The numbers of an island in the state of a net: the count and the done of its first timer, and the registers of its samples. The
-- timers within have no numbers. They follow from the first one's count, so that count says too that they do.
use Rattle.std.specs.Prelude.{ℕ, zero, suc, ◌+◌, nat_lt, Bool, false, List, [], ◌∷◌, length, Option, Some, None, slice_get, option_map, unwrap_or, if◌then◌else◌}
use Rattle.cx_prim.specs.CellStates.{CellState, Timer}
use Rattle.cx_meaning.specs.Designs.{PlainCell, PlainComponent}
use Rattle.cx_net.specs.NetMeaning.{NetState}
use Rattle.cx_static.specs.declared.islands.IslandTimer.{IslandTimer}
use Rattle.cx_static.specs.Islands.{PlainIsland}
use Rattle.cx_static.specs.Lowering.{lowered_component}
use Rattle.cx_wiring.specs.TimerCounts.{cycles_at, counts_in, all_count}

abbrev pub count_in : CellState → ℕ
count_in (Timer count done) = count
count_in other = 0

abbrev pub done_bit : CellState → Bool
done_bit (Timer count done) = done
done_bit other = false

abbrev pub done_in : CellState → ℕ
done_in state = if done_bit state then 1 else 0

abbrev pub cell_of_timer : List IslandTimer → ℕ → ℕ
cell_of_timer timers t = unwrap_or (option_map (λ timer. timer.cell) (slice_get timers t)) 0

-- the cells of the component, the state of each, and each register
module _ (cells : List PlainCell) (state : ℕ → CellState) (register : ℕ → ℕ) where
  abbrev pub timer_counts : List IslandTimer → ℕ → ℕ
  timer_counts timers t = count_in (state (cell_of_timer timers t))

  -- whether the timers within are in the cycle of the first one
  abbrev pub are_in_step : List IslandTimer → Bool
  are_in_step timers =
      all_count (timer_counts timers) (counts_in (cycles_at cells) (Some (timer_counts timers 0)) timers)
      (length timers)

  -- where they are not, a number that is no cycle's
  abbrev pub island_count : PlainIsland → ℕ
  island_count island = if are_in_step island.timers then timer_counts island.timers 0 else suc island.length

  -- THE NUMBERS, by the first register of the samples
  abbrev pub island_number : Option PlainIsland → ℕ → ℕ → ℕ
  island_number None first n = 0
  island_number (Some island) first zero = island_count island
  island_number (Some island) first (suc zero) = done_in (state (cell_of_timer island.timers 0))
  island_number (Some island) first (suc (suc n)) = if nat_lt n (length island.points) then register (first + n) else 0

-- of the island with a number in a component
abbrev pub of_island : PlainComponent → NetState → ℕ → ℕ → ℕ → ℕ
of_island part v first k n =
    island_number (lowered_component part).part.cells (λ c. v.cell (c ∷ [])) (v.register [])
    (slice_get (lowered_component part).islands k) first n
