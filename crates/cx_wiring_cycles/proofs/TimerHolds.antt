-- THE COUNTS of timers from that of the first one: each timer within has its own of the one around it.
use Rattle.std.proofs.Common.{◌≡◌, ℕ, zero, suc, ◌+◌, ◌<◌, ◌==◌, ◌&&◌, ⊎_elim, nat_eq, true, if◌then◌else◌, List, [], ◌∷◌, Option, Some, None, slice_get, refl, sym, ap, ◌∙◌, subst, arith}
use Rattle.std.proofs.lemmas.Bool.{eq-eqb, ne_eqb, eqb-true, and_parts, cases_eq, cases_lt}
use Rattle.cx_meaning.specs.Islands.{or_zero}
use Rattle.cx_static.specs.declared.islands.IslandTimer.{IslandTimer}
use Rattle.cx_wiring.specs.TimerCounts.{nested, timer_within, timer_count, counts_from, counts_in, all_count}

module _ (cycles : ℕ → ℕ) (first : Option ℕ) where
  abbrev also : (ℕ → Option ℕ) → ℕ → IslandTimer → ℕ → Option ℕ
  also known n timer k = if nat_eq k n then timer_count cycles first known timer else known k

  pub counts_stay : (known : ℕ → Option ℕ) (n : ℕ) (rest : List IslandTimer) (m : ℕ) → m < n → counts_from cycles first known n rest m ≡ known m
  counts_stay known n [] m less = refl
  counts_stay known n (timer ∷ rest) m less =
      counts_stay (also known n timer) (suc n) rest m (omega arith) ∙ ap (λ b. if b then timer_count cycles first known timer else known m) (ne_eqb m n (λ e. omega arith))

  within_same : (one other : ℕ → Option ℕ) (cell : ℕ) (outer : Option ℕ) (from to : ℕ) → ((o : ℕ) → outer ≡ Some o → one o ≡ other o) → timer_within cycles first one cell outer from to ≡ timer_within cycles first other cell outer from to
  within_same one other cell None from to same = refl
  within_same one other cell (Some o) from to same = ap (nested from to (cycles cell)) (same o refl)

  same_timer : (x y : IslandTimer) → ◌≡◌ {A = Option IslandTimer} (Some x) (Some y) → x ≡ y
  same_timer x y e = cc

  counts_at : (known : ℕ → Option ℕ) (n i m : ℕ) (rest : List IslandTimer) (timer : IslandTimer) → m ≡ n + i → slice_get rest i ≡ Some timer → ((o : ℕ) → timer.outer ≡ Some o → o < m)
      → counts_from cycles first known n rest m ≡ timer_count cycles first (counts_from cycles first known n rest) timer
  counts_at known n i m [] timer same e before = absurd cc
  counts_at known n zero m (x ∷ rest) timer same e before =
      let is : x ≡ timer = same_timer x timer e in
      let at_it : m ≡ n = omega arith in
      counts_stay (also known n x) (suc n) rest m (omega arith)
      ∙ ap (λ b. if b then timer_count cycles first known x else known m) (eq-eqb m n at_it)
      ∙ ap (timer_count cycles first known) is
      ∙ within_same known (counts_from cycles first known n (x ∷ rest)) timer.cell timer.outer timer.from timer.to (λ o f. let less : o < m = before o f in sym (counts_stay known n (x ∷ rest) o (omega arith)))
  counts_at known n (suc i) m (x ∷ rest) timer same e before = counts_at (also known n x) (suc n) i m rest timer (omega arith) e before

  module _ (timers : List IslandTimer) (before : (n : ℕ) (timer : IslandTimer) → slice_get timers n ≡ Some timer → (o : ℕ) → timer.outer ≡ Some o → o < n) where
    pub counts_hold : (n : ℕ) (timer : IslandTimer) → slice_get timers n ≡ Some timer → (outer : ℕ) → timer.outer ≡ Some outer → counts_in cycles first timers n ≡ nested timer.from timer.to (cycles timer.cell) (counts_in cycles first timers outer)
    counts_hold n timer e outer f =
        counts_at (λ k. None) 0 n n timers timer (omega arith) e (before n timer e)
        ∙ ap (λ o. timer_within cycles first (counts_in cycles first timers) timer.cell o timer.from timer.to) f

    pub counts_first : (timer : IslandTimer) → slice_get timers 0 ≡ Some timer → timer.outer ≡ None → counts_in cycles first timers 0 ≡ first
    counts_first timer e f =
        counts_at (λ k. None) 0 0 0 timers timer (omega arith) e (before 0 timer e)
        ∙ ap (λ o. timer_within cycles first (counts_in cycles first timers) timer.cell o timer.from timer.to) f

-- IN STEP: each count is as it has to be
pub all_counts : (count : ℕ → ℕ) (counts : ℕ → Option ℕ) (n : ℕ) → all_count count counts n ≡ true → (m : ℕ) → m < n → count m ≡ or_zero (counts m)
all_counts count counts zero h m less = absurd (omega arith)
all_counts count counts (suc n) h m less =
    let k = and_parts (count n == or_zero (counts n)) (all_count count counts n) h in
    ⊎_elim (λ e. subst (λ i. count i ≡ or_zero (counts i)) (sym e) (eqb-true (count n) (or_zero (counts n)) k.0)) (λ e. all_counts count counts n k.1 m (other e)) (cases_eq m n)
  where
    other : (m ≡ n → ⊥) → m < n
    other e = ⊎_elim (λ l. l) (λ l. let same : m ≡ n = omega arith in absurd (e same)) (cases_lt m n)

pub counts_all : (count : ℕ → ℕ) (counts : ℕ → Option ℕ) (n : ℕ) → ((m : ℕ) → m < n → count m ≡ or_zero (counts m)) → all_count count counts n ≡ true
counts_all count counts zero h = refl
counts_all count counts (suc n) h =
    ap (λ b. b && all_count count counts n) (eq-eqb (count n) (or_zero (counts n)) (h n (omega arith))) ∙ counts_all count counts n (λ m less. h m (omega arith))
