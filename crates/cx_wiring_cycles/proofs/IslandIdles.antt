-- Where nothing of a component's control acts, its timers go to the start: so the counts and dones of its islands are 0, and samples
-- stay where their registers do.
use Rattle.std.proofs.Common.{◌≡◌, ℕ, zero, suc, ◌+◌, ◌-◌, ◌%◌, ◌<◌, ◌≤◌, ◌&&◌, nat_le, nat_lt, nat_eq, Bool, true, false, if◌then◌else◌, List, [], ◌∷◌, length, Option, Some, None, option_map, unwrap_or, slice_get, refl, sym, ap, ◌∙◌, arith}
use Rattle.std.proofs.lemmas.Bool.{eq-eqb, ltb-true}
use Rattle.std.proofs.Math.Nat.{zero-mod}
use Rattle.cx_prim.specs.CellStates.{CellState, Timer}
use Rattle.cx_meaning.specs.Designs.{PlainCell}
use Rattle.cx_meaning.specs.Islands.{or_zero}
use Rattle.cx_static.specs.declared.islands.IslandTimer.{IslandTimer}
use Rattle.cx_static.specs.Islands.{PlainIsland}
use Rattle.cx_wiring.specs.TimerCounts.{nested, cycles_at, timer_within, timer_count, counts_from, counts_in, all_count}
use Rattle.cx_wiring_cycles.specs.IslandNumbers.{count_in, done_in, cell_of_timer, timer_counts, island_count, island_number}
use Rattle.cx_wiring_cycles.proofs.IdleNumbers.{IslandIdled}
use Rattle.cx_text.proofs.ListLaws.{there_at}

-- AT COUNT 0 all timers are at 0
nested_zero : (from to p : ℕ) (o : Option ℕ) → or_zero o ≡ 0 → or_zero (nested from to p o) ≡ 0
nested_zero from to p None e = refl
nested_zero from to p (Some c) e = by (nat_le from c && nat_lt c to)
  where
    by : (b : Bool) → or_zero (if b then Some ((c - from) % p) else None) ≡ 0
    by true = let none : c - from ≡ 0 = omega arith in ap (λ n. n % p) none ∙ zero-mod p
    by false = refl

within_zero : (cycles : ℕ → ℕ) (first : Option ℕ) (known : ℕ → Option ℕ) (cell : ℕ) (outer : Option ℕ) (from to : ℕ) → or_zero first ≡ 0 → ((n : ℕ) → or_zero (known n) ≡ 0) → or_zero (timer_within cycles first known cell outer from to) ≡ 0
within_zero cycles first known cell None from to e h = e
within_zero cycles first known cell (Some outer) from to e h = nested_zero from to (cycles cell) (known outer) (h outer)

pub counts_zero : (cycles : ℕ → ℕ) (first : Option ℕ) → or_zero first ≡ 0 → (timers : List IslandTimer) (known : ℕ → Option ℕ) (n : ℕ) → ((m : ℕ) → or_zero (known m) ≡ 0) → (m : ℕ) → or_zero (counts_from cycles first known n timers m) ≡ 0
counts_zero cycles first e [] known n h m = h m
counts_zero cycles first e (timer ∷ rest) known n h m =
    counts_zero cycles first e rest (λ k. if nat_eq k n then timer_count cycles first known timer else known k) (suc n) (λ k. by (nat_eq k n) k) m
  where
    by : (b : Bool) (k : ℕ) → or_zero (if b then timer_count cycles first known timer else known k) ≡ 0
    by true k = within_zero cycles first known timer.cell timer.outer timer.from timer.to e h
    by false k = h k

pub all_zero : (count : ℕ → ℕ) (counts : ℕ → Option ℕ) (n : ℕ) → ((m : ℕ) → m < n → count m ≡ 0) → ((m : ℕ) → or_zero (counts m) ≡ 0) → all_count count counts n ≡ true
all_zero count counts zero h k = refl
all_zero count counts (suc n) h k =
    ap (λ b. b && all_count count counts n) (eq-eqb (count n) (or_zero (counts n)) (h n (omega arith) ∙ sym (k n))) ∙ all_zero count counts n (λ m less. h m (omega arith)) k

-- TIMERS THAT REST
module _ (cells : List PlainCell) (state : ℕ → CellState) (register : ℕ → ℕ) (island : PlainIsland) (some : 0 < length island.timers)
    (rest : (t : ℕ) (timer : IslandTimer) → slice_get island.timers t ≡ Some timer → state timer.cell ≡ Timer 0 false) where
  cell_rests : (t : ℕ) → t < length island.timers → state (cell_of_timer island.timers t) ≡ Timer 0 false
  cell_rests t less =
      let k = there_at island.timers t less in ap (λ (o : Option IslandTimer). state (unwrap_or (option_map (λ (z : IslandTimer). z.cell) o) 0)) k.1 ∙ rest t k.0 k.1

  pub count_rests : island_count cells state register island ≡ 0
  count_rests =
      let first : timer_counts cells state register island.timers 0 ≡ 0 = ap count_in (cell_rests 0 some) in
      ap (λ b. if b then timer_counts cells state register island.timers 0 else suc island.length)
      (all_zero (timer_counts cells state register island.timers) (counts_in (cycles_at cells) (Some (timer_counts cells state register island.timers 0)) island.timers) (length island.timers)
      (λ t less. ap count_in (cell_rests t less)) (λ m. counts_zero (cycles_at cells) (Some (timer_counts cells state register island.timers 0)) first island.timers (λ k. None) 0 (λ k. refl) m))
      ∙ first

  pub done_rests : done_in (state (cell_of_timer island.timers 0)) ≡ 0
  done_rests = ap done_in (cell_rests 0 some)

-- THE NUMBERS of an island whose timers come to rest
pub numbers_idle : (cells : List PlainCell) (now next : ℕ → CellState) (kept later : ℕ → ℕ) (o : Option PlainIsland) (first : ℕ)
    → ((island : PlainIsland) → o ≡ Some island → 0 < length island.timers)
    → ((island : PlainIsland) → o ≡ Some island → (t : ℕ) (timer : IslandTimer) → slice_get island.timers t ≡ Some timer → next timer.cell ≡ Timer 0 false)
    → ((island : PlainIsland) → o ≡ Some island → (m : ℕ) → first ≤ m → m < first + length island.points → later m ≡ kept m)
    → IslandIdled (island_number cells now kept o first) (island_number cells next later o first)
numbers_idle cells now next kept later None first some rest stay = record { count = refl; done = refl; samples = λ j. refl }
numbers_idle cells now next kept later (Some island) first some rest stay = record {
  count = count_rests cells next later island (some island refl) (rest island refl);
  done = done_rests cells next later island (some island refl) (rest island refl);
  samples = λ j. by j (nat_lt j (length island.points)) refl;
}
  where
    by : (j : ℕ) (b : Bool) → nat_lt j (length island.points) ≡ b → (if b then later (first + j) else 0) ≡ (if b then kept (first + j) else 0)
    by j true e = let less : j < length island.points = ltb-true j (length island.points) e in stay island refl (first + j) (omega arith) (omega arith)
    by j false e = refl
