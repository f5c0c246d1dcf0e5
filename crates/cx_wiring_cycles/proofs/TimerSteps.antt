-- THE STEP OF TIMERS: from one cycle of an island to the next, or behind its last, each timer's count goes on by one where it runs and is
-- not at its end, and else to 0.
use Rattle.std.proofs.Common.{◌≡◌, ℕ, zero, suc, ◌+◌, ◌-◌, ◌*◌, ◌%◌, ◌<◌, ◌≤◌, ◌⊎◌, inl, inr, ⊎_elim, ◌&&◌, ◌==◌, nat_le, nat_lt, Bool, true, false, if◌then◌else◌, List, length, Option, Some, None, slice_get, refl, sym, ap, ◌∙◌, subst, arith}
use Rattle.std.proofs.lemmas.Bool.{cases_lt, lt-ltb, le-ltb, le-leb, lt-leb, eq-eqb, ne_eqb}
use Rattle.std.proofs.lemmas.Nat.{mod_below, mod-mul-add}
use Rattle.std.proofs.Math.Nat.{mod-eq_of_lt, mod_self, suc-mod, zero-mod}
use Rattle.cx_meaning.specs.Islands.{or_zero}
use Rattle.cx_static.specs.declared.islands.IslandTimer.{IslandTimer}
use Rattle.cx_wiring.specs.TimerCounts.{nested}
use Rattle.cx_wiring_cycles.proofs.IslandOffsets.{Lies, before, in_it, behind, lies}
use Rattle.cx_text.proofs.ListLaws.{there_at}

-- of a timer of p cycles: its count in a cycle where it runs, and in the next one
pub data Follows (p : ℕ) (a b : Option ℕ) : Type 0 where
  waits : a ≡ None → b ≡ None → Follows p a b
  begins : a ≡ None → b ≡ Some 0 → Follows p a b
  goes : (c : ℕ) → a ≡ Some c → b ≡ Some (suc c) → suc c < p → Follows p a b
  again : (c : ℕ) → a ≡ Some c → b ≡ Some 0 → suc c ≡ p → Follows p a b
  ends : (c : ℕ) → a ≡ Some c → b ≡ None → suc c ≡ p → Follows p a b

nested_out : (from to q c : ℕ) → (c < from) ⊎ (to ≤ c) → nested from to q (Some c) ≡ None
nested_out from to q c (inl l) = ap (λ b. if b && nat_lt c to then Some ((c - from) % q) else None) (lt-leb from c l)
nested_out from to q c (inr l) = by (nat_le from c)
  where
    by : (b : Bool) → (if b && nat_lt c to then Some ((c - from) % q) else None) ≡ None
    by true = ap (λ b. if b then Some ((c - from) % q) else None) (le-ltb c to l)
    by false = refl

nested_in : (from to q c : ℕ) → from ≤ c → c < to → nested from to q (Some c) ≡ Some ((c - from) % q)
nested_in from to q c l m = ap (λ b. if b && nat_lt c to then Some ((c - from) % q) else None) (le-leb from c l) ∙ ap (λ b. if b then Some ((c - from) % q) else None) (lt-ltb c to m)

-- the last of so many rounds of q cycles ends at a multiple of q
multiple : (k q : ℕ) → 0 < q → (k * q) % q ≡ 0
multiple k q some = let more : k * q ≡ k * q + 0 = omega arith in ap (λ n. n % q) more ∙ mod-mul-add k q 0 some

round_end : (k q j : ℕ) → 0 < q → suc j ≡ k * q → suc (j % q) ≡ q
round_end k q j some e =
    let below : j % q < q = mod_below j q some in
    ⊎_elim
    (λ l. absurd (at_zero (sym (suc-mod j q ∙ mod-eq_of_lt l) ∙ ap (λ n. n % q) e ∙ multiple k q some)))
    (λ l. omega arith)
    (cases_lt (suc (j % q)) q)
  where
    at_zero : suc (j % q) ≡ 0 → ⊥
    at_zero f = omega arith

-- the next count within a range
next_round : (q j : ℕ) (a b : Option ℕ) → 0 < q → a ≡ Some (j % q) → b ≡ Some (suc j % q) → Follows q a b
next_round q j a b some e f =
    let below : j % q < q = mod_below j q some in
    ⊎_elim
    (λ l. goes (j % q) e (f ∙ ap Some (suc-mod j q ∙ mod-eq_of_lt l)) l)
    (λ l. let last : suc (j % q) ≡ q = omega arith in again (j % q) e (f ∙ ap Some (suc-mod j q ∙ ap (λ n. n % q) last ∙ mod_self q)) last)
    (cases_lt (suc (j % q)) q)

-- A TIMER WITHIN, of k rounds of q cycles from a count on, before the end of the timer around it
module _ (p from k q : ℕ) (some : 0 < q) (within : from + k * q ≤ p) where
  abbrev inner : Option ℕ → Option ℕ
  inner o = nested from (from + k * q) q o

  in_at : (c : ℕ) → from ≤ c → c < from + k * q → nested from (from + k * q) q (Some c) ≡ Some ((c - from) % q)
  in_at c l m = nested_in from (from + k * q) q c l m

  -- at the front of the timer around it
  at_front : (nested from (from + k * q) q (Some 0) ≡ None) ⊎ (nested from (from + k * q) q (Some 0) ≡ Some 0)
  at_front = by (lies from (k * q) 0)
    where
      by : Lies from (k * q) 0 → (nested from (from + k * q) q (Some 0) ≡ None) ⊎ (nested from (from + k * q) q (Some 0) ≡ Some 0)
      by (before l) = inl (nested_out from (from + k * q) q 0 (inl l))
      by (behind l f) = inl (nested_out from (from + k * q) q 0 (inr f))
      by (in_it l f) = let none : 0 - from ≡ 0 = omega arith in inr (in_at 0 l f ∙ ap (λ n. Some (n % q)) none ∙ ap Some (zero-mod q))

  -- at the end of it
  at_end : (c : ℕ) → suc c ≡ p → (nested from (from + k * q) q (Some c) ≡ None) ⊎ ((j : ℕ) × (nested from (from + k * q) q (Some c) ≡ Some j) × (suc j ≡ q))
  at_end c e = by (lies from (k * q) c)
    where
      by : Lies from (k * q) c → (nested from (from + k * q) q (Some c) ≡ None) ⊎ ((j : ℕ) × (nested from (from + k * q) q (Some c) ≡ Some j) × (suc j ≡ q))
      by (before l) = inl (nested_out from (from + k * q) q c (inl l))
      by (behind l f) = inl (nested_out from (from + k * q) q c (inr f))
      by (in_it l f) = let last : suc (c - from) ≡ k * q = omega arith in inr ((c - from) % q, in_at c l f, round_end k q (c - from) some last)

  -- from any count on
  on_from : (c : ℕ) → suc c < p → Follows q (nested from (from + k * q) q (Some c)) (nested from (from + k * q) q (Some (suc c)))
  on_from c less = by (lies from (k * q) c) (lies from (k * q) (suc c))
    where
      by : Lies from (k * q) c → Lies from (k * q) (suc c) → Follows q (nested from (from + k * q) q (Some c)) (nested from (from + k * q) q (Some (suc c)))
      by (before l) (before m) = waits (nested_out from (from + k * q) q c (inl l)) (nested_out from (from + k * q) q (suc c) (inl m))
      by (before l) (in_it m f) =
          let none : suc c - from ≡ 0 = omega arith in
          begins (nested_out from (from + k * q) q c (inl l)) (in_at (suc c) m f ∙ ap (λ n. Some (n % q)) none ∙ ap Some (zero-mod q))
      by (before l) (behind m f) = waits (nested_out from (from + k * q) q c (inl l)) (nested_out from (from + k * q) q (suc c) (inr f))
      by (in_it l f) (before m) = absurd (omega arith)
      by (in_it l f) (in_it m g) =
          let next : suc c - from ≡ suc (c - from) = omega arith in
          next_round q (c - from) _ _ some (in_at c l f) (in_at (suc c) m g ∙ ap (λ n. Some (n % q)) next)
      by (in_it l f) (behind m g) =
          let last : suc (c - from) ≡ k * q = omega arith in
          ends ((c - from) % q) (in_at c l f) (nested_out from (from + k * q) q (suc c) (inr g)) (round_end k q (c - from) some last)
      by (behind l f) (before m) = absurd (omega arith)
      by (behind l f) (in_it m g) = absurd (omega arith)
      by (behind l f) (behind m g) = waits (nested_out from (from + k * q) q c (inr f)) (nested_out from (from + k * q) q (suc c) (inr g))

  pub inner_follows : (a b : Option ℕ) → Follows p a b → Follows q (nested from (from + k * q) q a) (nested from (from + k * q) q b)
  inner_follows a b (waits e f) = waits (ap inner e) (ap inner f)
  inner_follows a b (begins e f) = ⊎_elim (λ g. waits (ap inner e) (ap inner f ∙ g)) (λ g. begins (ap inner e) (ap inner f ∙ g)) at_front
  inner_follows a b (goes c e f l) = subst (λ z. Follows q z (inner b)) (sym (ap inner e)) (subst (λ z. Follows q (inner (Some c)) z) (sym (ap inner f)) (on_from c l))
  inner_follows a b (again c e f l) =
      ⊎_elim
      (λ g. ⊎_elim (λ h. waits (ap inner e ∙ g) (ap inner f ∙ h)) (λ h. begins (ap inner e ∙ g) (ap inner f ∙ h)) at_front)
      (λ g. ⊎_elim (λ h. ends g.0 (ap inner e ∙ g.1) (ap inner f ∙ h) g.2) (λ h. again g.0 (ap inner e ∙ g.1) (ap inner f ∙ h) g.2) at_front)
      (at_end c l)
  inner_follows a b (ends c e f l) = ⊎_elim (λ g. waits (ap inner e ∙ g) (ap inner f)) (λ g. ends g.0 (ap inner e ∙ g.1) (ap inner f) g.2) (at_end c l)

-- what a timer of p cycles comes to from its count, where it runs
abbrev pub stepped : ℕ → Option ℕ → ℕ
stepped p None = 0
stepped p (Some c) = if c + 1 == p then 0 else c + 1

-- WHAT IT COMES TO is its count in the next cycle
pub count_next : (p : ℕ) (a b : Option ℕ) → Follows p a b → stepped p a ≡ or_zero b
count_next p a b (waits e f) = ap (stepped p) e ∙ sym (ap or_zero f)
count_next p a b (begins e f) = ap (stepped p) e ∙ sym (ap or_zero f)
count_next p a b (goes c e f l) =
    let more : c + 1 ≡ suc c = omega arith in ap (stepped p) e ∙ ap (λ t. if t then 0 else c + 1) (ne_eqb (c + 1) p (λ g. omega arith)) ∙ more ∙ sym (ap or_zero f)
count_next p a b (again c e f l) = ap (stepped p) e ∙ ap (λ t. if t then 0 else c + 1) (eq-eqb (c + 1) p (omega arith)) ∙ sym (ap or_zero f)
count_next p a b (ends c e f l) = ap (stepped p) e ∙ ap (λ t. if t then 0 else c + 1) (eq-eqb (c + 1) p (omega arith)) ∙ sym (ap or_zero f)

-- ALL TIMERS of an island, where the first one goes on
module _ (timers : List IslandTimer) (a b : ℕ → Option ℕ) (cycles : ℕ → ℕ)
    (held_a : (n : ℕ) (timer : IslandTimer) → slice_get timers n ≡ Some timer → (outer : ℕ) → timer.outer ≡ Some outer → a n ≡ nested timer.from timer.to (cycles n) (a outer))
    (held_b : (n : ℕ) (timer : IslandTimer) → slice_get timers n ≡ Some timer → (outer : ℕ) → timer.outer ≡ Some outer → b n ≡ nested timer.from timer.to (cycles n) (b outer))
    (fits : (n : ℕ) (timer : IslandTimer) → slice_get timers n ≡ Some timer → 0 < n → (outer : ℕ) × (timer.outer ≡ Some outer) × (outer < n) × (rounds : ℕ) × (timer.to ≡ timer.from + rounds * cycles n) × (timer.to ≤ cycles outer))
    (some : (n : ℕ) → n < length timers → 0 < cycles n) (first : Follows (cycles 0) (a 0) (b 0)) where
  follow_below : (bound n : ℕ) → n < bound → n < length timers → Follows (cycles n) (a n) (b n)
  follow_below zero n less there = absurd (omega arith)
  follow_below (suc bound) zero less there = first
  follow_below (suc bound) (suc n) less there =
      let t = there_at timers (suc n) there in
      let f = fits (suc n) t.0 t.1 (omega arith) in
      let before_it : f.0 < suc n = f.2 in
      let whole : t.0.to ≡ t.0.from + f.3 * cycles (suc n) = f.4 in
      let within : t.0.to ≤ cycles f.0 = f.5 in
      let around = follow_below bound f.0 (omega arith) (omega arith) in
      let inner = inner_follows (cycles f.0) t.0.from f.3 (cycles (suc n)) (some (suc n) there) (omega arith) (a f.0) (b f.0) around in
      let is_a : a (suc n) ≡ nested t.0.from (t.0.from + f.3 * cycles (suc n)) (cycles (suc n)) (a f.0) = held_a (suc n) t.0 t.1 f.0 f.1 ∙ ap (λ to. nested t.0.from to (cycles (suc n)) (a f.0)) whole in
      let is_b : b (suc n) ≡ nested t.0.from (t.0.from + f.3 * cycles (suc n)) (cycles (suc n)) (b f.0) = held_b (suc n) t.0 t.1 f.0 f.1 ∙ ap (λ to. nested t.0.from to (cycles (suc n)) (b f.0)) whole in
      subst (λ z. Follows (cycles (suc n)) z (b (suc n))) (sym is_a) (subst (λ z. Follows (cycles (suc n)) (nested t.0.from (t.0.from + f.3 * cycles (suc n)) (cycles (suc n)) (a f.0)) z) (sym is_b) inner)

  pub timers_step : (n : ℕ) → n < length timers → stepped (cycles n) (a n) ≡ or_zero (b n)
  timers_step n there = count_next (cycles n) (a n) (b n) (follow_below (suc n) n (omega arith) there)
