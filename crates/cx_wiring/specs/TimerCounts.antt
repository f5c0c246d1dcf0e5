-- The counts of an island's timers in each cycle, from the count of the first one: the timers within run in a range of counts of the
-- timer around them.
use Rattle.std.specs.Prelude.{ℕ, zero, suc, ◌-◌, ◌%◌, ◌==◌, ◌&&◌, nat_lt, nat_le, nat_eq, Bool, true, List, [], ◌∷◌, Option, Some, None, slice_get, option_map, unwrap_or, if◌then◌else◌}
use Rattle.cx_meaning.specs.Designs.{PlainKind, OfPrimitive, OfComponent, PlainCell}
use Rattle.cx_meaning.specs.Islands.{or_zero}
use Rattle.cx_static.specs.declared.islands.IslandTimer.{IslandTimer}
use Rattle.cx_rules.specs.Wellformed.{first_number}

-- of a timer of p cycles that runs while the one around it counts from the first to before the second: its count where it runs
abbrev pub nested : ℕ → ℕ → ℕ → Option ℕ → Option ℕ
nested from to p None = None
nested from to p (Some c) = if nat_le from c && nat_lt c to then Some ((c - from) % p) else None

abbrev pub kind_cycles : PlainKind → ℕ
kind_cycles (OfPrimitive primitive) = first_number primitive.numbers
kind_cycles (OfComponent k) = 0

abbrev pub cycles_at : List PlainCell → ℕ → ℕ
cycles_at cells c = unwrap_or (option_map (λ cell. kind_cycles cell.kind) (slice_get cells c)) 0

-- THE TIMERS, each with its count where it runs; the cycles of a timer by its cell, and the count of the first one, are given
module _ (cycles : ℕ → ℕ) (first : Option ℕ) where
  abbrev pub timer_within : (ℕ → Option ℕ) → ℕ → Option ℕ → ℕ → ℕ → Option ℕ
  timer_within known cell None from to = first
  timer_within known cell (Some outer) from to = nested from to (cycles cell) (known outer)

  abbrev pub timer_count : (ℕ → Option ℕ) → IslandTimer → Option ℕ
  timer_count known timer = timer_within known timer.cell timer.outer timer.from timer.to

  -- from timer n on, where those before it are known
  abbrev pub counts_from : (ℕ → Option ℕ) → ℕ → List IslandTimer → ℕ → Option ℕ
  counts_from known n [] m = known m
  counts_from known n (timer ∷ rest) m =
      counts_from (λ k. if nat_eq k n then timer_count known timer else known k) (suc n) rest m

  abbrev pub counts_in : List IslandTimer → ℕ → Option ℕ
  counts_in timers m = counts_from (λ k. None) 0 timers m

-- the first timers count as they have to, and are at 0 where they do not run
abbrev pub all_count : (ℕ → ℕ) → (ℕ → Option ℕ) → ℕ → Bool
all_count count counts zero = true
all_count count counts (suc n) = (count n == or_zero (counts n)) && all_count count counts n
