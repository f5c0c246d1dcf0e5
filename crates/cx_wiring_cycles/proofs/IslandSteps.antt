-- What an edge makes of the timers of an island in one of its cycles: they come to the counts of the next cycle, and after the last one
-- to 0, with the first one done.
use Rattle.std.proofs.Common.{◌≡◌, ℕ, suc, ◌+◌, ◌*◌, ◌<◌, ◌≤◌, ◌==◌, Bool, true, false, if◌then◌else◌, List, length, Option, Some, None, option_map, unwrap_or, slice_get, refl, sym, ap, ◌∙◌, subst}
use Rattle.cx_prim.specs.CellStates.{CellState, Timer}
use Rattle.cx_prim.specs.PipeRows.{timer_idle, timer_go}
use Rattle.cx_meaning.specs.Designs.{PlainCell, PlainComponent, PlainForm}
use Rattle.cx_meaning.specs.Islands.{or_zero, form_length}
use Rattle.cx_static.specs.declared.islands.IslandTimer.{IslandTimer}
use Rattle.cx_static.specs.Islands.{PlainIsland}
use Rattle.cx_static.specs.Lowering.{Gathered, timer_cell, island_gathered, island_of}
use Rattle.cx_wiring.specs.TimerCounts.{nested, kind_cycles, cycles_at, counts_in}
use Rattle.cx_wiring.proofs.ListedLaws.{AreListed, HasTimer, island_listed, first_has}
use Rattle.cx_wiring_cycles.specs.IslandNumbers.{count_in, done_bit, done_in, cell_of_timer, timer_counts, island_count}
use Rattle.cx_wiring_cycles.proofs.TimerHolds.{counts_hold, counts_first, counts_all}
use Rattle.cx_wiring_cycles.proofs.TimerSteps.{Follows, goes, ends, stepped, timers_step}
use Rattle.cx_wiring_cycles.proofs.CycleBits.{is_there}
use Rattle.cx_wiring_cycles.proofs.IslandCycle.{outer_before}
use Rattle.cx_wiring_cycles.proofs.IslandIdles.{counts_zero, all_zero}
use Rattle.cx_text.proofs.ListLaws.{there_at}

-- one timer
count_after : (p c : ℕ) (d : Bool) (o : Option ℕ) → c ≡ or_zero o → count_in (if is_there o then timer_go p (Timer c d) else timer_idle (Timer c d)) ≡ stepped p o
count_after p c d None e = refl
count_after p c d (Some n) e = ap (λ m. count_in (timer_go p (Timer m d))) e ∙ by (n + 1 == p)
  where
    by : (b : Bool) → count_in (if b then Timer 0 true else Timer (n + 1) false) ≡ (if b then 0 else n + 1)
    by true = refl
    by false = refl

done_after : (p c : ℕ) (d : Bool) → done_bit (timer_go p (Timer c d)) ≡ (c + 1 == p)
done_after p c d = by (c + 1 == p)
  where
    by : (b : Bool) → done_bit (if b then Timer 0 true else Timer (c + 1) false) ≡ b
    by true = refl
    by false = refl

module _ (part : PlainComponent) (form : PlainForm) (front cells : List PlainCell) (now next : ℕ → CellState) (kept later : ℕ → ℕ) (t : ℕ) (less : t < form_length part form)
    (cycles_are : (n : ℕ) (timer : IslandTimer) → slice_get (island_gathered part form front).timers n ≡ Some timer → cycles_at cells timer.cell ≡ cycles_at (island_gathered part form front).cells timer.cell)
    (some : (n : ℕ) (timer : IslandTimer) → slice_get (island_gathered part form front).timers n ≡ Some timer → 0 < cycles_at cells timer.cell)
    (is_timer : (n : ℕ) (timer : IslandTimer) → slice_get (island_gathered part form front).timers n ≡ Some timer → now timer.cell ≡ Timer (count_in (now timer.cell)) (done_bit (now timer.cell)))
    (in_step : (m : ℕ) → m < length (island_gathered part form front).timers → timer_counts cells now kept (island_gathered part form front).timers m ≡ or_zero (counts_in (cycles_at cells) (Some t) (island_gathered part form front).timers m))
    (runs : ℕ → Bool) (runs_so : (m : ℕ) → m < length (island_gathered part form front).timers → runs m ≡ is_there (counts_in (cycles_at cells) (Some t) (island_gathered part form front).timers m))
    (steps : (n : ℕ) (timer : IslandTimer) → slice_get (island_gathered part form front).timers n ≡ Some timer
    → next timer.cell ≡ (if runs n then timer_go (cycles_at cells timer.cell) (now timer.cell) else timer_idle (now timer.cell))) where
  abbrev final : Gathered
  final = island_gathered part form front

  abbrev lists : AreListed part (island_gathered part form front)
  lists = island_listed part form front

  abbrev a : ℕ → Option ℕ
  a = counts_in (cycles_at cells) (Some t) (island_gathered part form front).timers

  abbrev P : ℕ → ℕ
  P n = cycles_at cells (cell_of_timer (island_gathered part form front).timers n)

  cell_is : (n : ℕ) (timer : IslandTimer) → slice_get (island_gathered part form front).timers n ≡ Some timer → cell_of_timer (island_gathered part form front).timers n ≡ timer.cell
  cell_is n timer e = ap (λ (o : Option IslandTimer). unwrap_or (option_map (λ (z : IslandTimer). z.cell) o) 0) e

  edge_of : (m : ℕ) (timer : IslandTimer) → slice_get (island_gathered part form front).timers m ≡ Some timer → m < length (island_gathered part form front).timers
      → next timer.cell
      ≡ (if is_there (counts_in (cycles_at cells) (Some t) (island_gathered part form front).timers m) then timer_go (cycles_at cells timer.cell) (Timer (count_in (now timer.cell)) (done_bit (now timer.cell)))
      else timer_idle (Timer (count_in (now timer.cell)) (done_bit (now timer.cell))))
  edge_of m timer e there =
      steps m timer e ∙ ap (λ s. if runs m then timer_go (cycles_at cells timer.cell) s else timer_idle s) (is_timer m timer e)
      ∙ ap (λ b. if b then timer_go (cycles_at cells timer.cell) (Timer (count_in (now timer.cell)) (done_bit (now timer.cell))) else timer_idle (Timer (count_in (now timer.cell)) (done_bit (now timer.cell)))) (runs_so m there)

  next_count : (m : ℕ) → m < length (island_gathered part form front).timers → timer_counts cells next later (island_gathered part form front).timers m ≡ stepped (P m) (a m)
  next_count m there =
      let k = there_at final.timers m there in
      let cell = cell_is m k.0 k.1 in
      ap (λ c. count_in (next c)) cell ∙ ap count_in (edge_of m k.0 k.1 there)
      ∙ count_after (cycles_at cells k.0.cell) (count_in (now k.0.cell)) (done_bit (now k.0.cell)) (a m) (ap (λ c. count_in (now c)) (sym cell) ∙ in_step m there)
      ∙ ap (λ c. stepped (cycles_at cells c) (a m)) (sym cell)

  -- the cycles of timers
  own_cycles : (n p : ℕ) (timer : IslandTimer) → slice_get (island_gathered part form front).timers n ≡ Some timer → slice_get (island_gathered part form front).cells timer.cell ≡ Some (timer_cell part.place p)
      → cycles_at cells (cell_of_timer (island_gathered part form front).timers n) ≡ p
  own_cycles n p timer e f =
      ap (cycles_at cells) (cell_is n timer e) ∙ cycles_are n timer e ∙ ap (λ (o : Option PlainCell). unwrap_or (option_map (λ (c : PlainCell). kind_cycles c.kind) o) 0) f

  first_cycles : cycles_at cells (cell_of_timer (island_gathered part form front).timers 0) ≡ form_length part form
  first_cycles = let h = first_has part form front in own_cycles 0 (form_length part form) h.timer h.listed h.cell

  first_count : (o : Option ℕ) → counts_in (cycles_at cells) o (island_gathered part form front).timers 0 ≡ o
  first_count o = let k = there_at final.timers 0 lists.some in counts_first (cycles_at cells) o final.timers (outer_before part form front) k.0 k.1 (lists.first k.0 k.1)

  held : (o : Option ℕ) (n : ℕ) (timer : IslandTimer) → slice_get (island_gathered part form front).timers n ≡ Some timer → (outer : ℕ) → timer.outer ≡ Some outer
      → counts_in (cycles_at cells) o (island_gathered part form front).timers n ≡ nested timer.from timer.to (P n) (counts_in (cycles_at cells) o (island_gathered part form front).timers outer)
  held o n timer e outer f =
      counts_hold (cycles_at cells) o final.timers (outer_before part form front) n timer e outer f
      ∙ ap (λ c. nested timer.from timer.to (cycles_at cells c) (counts_in (cycles_at cells) o final.timers outer)) (sym (cell_is n timer e))

  fits : (n : ℕ) (timer : IslandTimer) → slice_get (island_gathered part form front).timers n ≡ Some timer → 0 < n → (outer : ℕ) × (timer.outer ≡ Some outer) × (outer < n) × (rounds : ℕ) × (timer.to ≡ timer.from + rounds * P n) × (timer.to ≤ P outer)
  fits n timer e late =
      let w = lists.within n timer e late in
      let f = w.2 in
      let own = own_cycles n f.own timer e f.own_cell in
      let around = own_cycles w.0 f.around (HasTimer.timer f.around_it) (HasTimer.listed f.around_it) (HasTimer.cell f.around_it) in
      (w.0, w.1, f.before, f.rounds, subst (λ q. timer.to ≡ timer.from + f.rounds * q) (sym own) f.whole, subst (λ q. timer.to ≤ q) (sym around) f.within)

  some_cycles : (n : ℕ) → n < length (island_gathered part form front).timers → 0 < P n
  some_cycles n there = let k = there_at final.timers n there in subst (λ c. 0 < cycles_at cells c) (sym (cell_is n k.0 k.1)) (some n k.0 k.1)

  steps_to : (o : Option ℕ) → Follows (form_length part form) (Some t) o → (m : ℕ) → m < length (island_gathered part form front).timers
      → timer_counts cells next later (island_gathered part form front).timers m ≡ or_zero (counts_in (cycles_at cells) o (island_gathered part form front).timers m)
  steps_to o follows m there =
      next_count m there
      ∙ timers_step final.timers a (counts_in (cycles_at cells) o final.timers) P (held (Some t)) (held o) fits some_cycles
      (subst (λ p. Follows p (a 0) (counts_in (cycles_at cells) o final.timers 0)) (sym first_cycles)
      (subst (λ z. Follows (form_length part form) z (counts_in (cycles_at cells) o final.timers 0)) (sym (first_count (Some t))) (subst (λ z. Follows (form_length part form) (Some t) z) (sym (first_count o)) follows))) m there

  abbrev island : PlainIsland
  island = island_of (form_length part form) (island_gathered part form front)

  -- THE NEXT COUNT, where the island goes on
  pub count_goes : suc t < form_length part form → island_count cells next later (island_of (form_length part form) (island_gathered part form front)) ≡ suc t
  count_goes more =
      let to = steps_to (Some (suc t)) (goes t refl refl more) in
      let first : timer_counts cells next later final.timers 0 ≡ suc t = to 0 lists.some ∙ ap or_zero (first_count (Some (suc t))) in
      ap (λ b. if b then timer_counts cells next later final.timers 0 else suc (form_length part form))
      (counts_all (timer_counts cells next later final.timers) (counts_in (cycles_at cells) (Some (timer_counts cells next later final.timers 0)) final.timers) (length final.timers)
      (λ m there. subst (λ c. timer_counts cells next later final.timers m ≡ or_zero (counts_in (cycles_at cells) (Some c) final.timers m)) (sym first) (to m there)))
      ∙ first

  -- and where it ends
  pub count_ends : suc t ≡ form_length part form → island_count cells next later (island_of (form_length part form) (island_gathered part form front)) ≡ 0
  count_ends last =
      let to = steps_to None (ends t refl refl last) in
      let zeros : (m : ℕ) → or_zero (counts_in (cycles_at cells) None final.timers m) ≡ 0 = λ m. counts_zero (cycles_at cells) None refl final.timers (λ k. None) 0 (λ k. refl) m in
      let first : timer_counts cells next later final.timers 0 ≡ 0 = to 0 lists.some ∙ zeros 0 in
      ap (λ b. if b then timer_counts cells next later final.timers 0 else suc (form_length part form))
      (all_zero (timer_counts cells next later final.timers) (counts_in (cycles_at cells) (Some (timer_counts cells next later final.timers 0)) final.timers) (length final.timers)
      (λ m there. to m there ∙ zeros m) (λ m. counts_zero (cycles_at cells) (Some (timer_counts cells next later final.timers 0)) first final.timers (λ k. None) 0 (λ k. refl) m))
      ∙ first

  -- the first timer is done then, and not before
  pub done_next : done_in (next (cell_of_timer (island_gathered part form front).timers 0)) ≡ (if t + 1 == form_length part form then 1 else 0)
  done_next =
      let k = there_at final.timers 0 lists.some in
      let cell = cell_is 0 k.0 k.1 in
      let count : count_in (now k.0.cell) ≡ t = ap (λ c. count_in (now c)) (sym cell) ∙ in_step 0 lists.some ∙ ap or_zero (first_count (Some t)) in
      ap (λ c. if done_bit (next c) then 1 else 0) cell
      ∙ ap (λ s. if done_bit s then 1 else 0) (edge_of 0 k.0 k.1 lists.some
      ∙ ap (λ (o : Option ℕ). if is_there o then timer_go (cycles_at cells k.0.cell) (Timer (count_in (now k.0.cell)) (done_bit (now k.0.cell))) else timer_idle (Timer (count_in (now k.0.cell)) (done_bit (now k.0.cell)))) (first_count (Some t)))
      ∙ ap (λ b. if b then 1 else 0) (done_after (cycles_at cells k.0.cell) (count_in (now k.0.cell)) (done_bit (now k.0.cell)))
      ∙ ap (λ c. if c + 1 == cycles_at cells k.0.cell then 1 else 0) count
      ∙ ap (λ p. if t + 1 == p then 1 else 0) (ap (cycles_at cells) (sym cell) ∙ first_cycles)
