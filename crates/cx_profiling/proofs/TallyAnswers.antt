-- A COUNT AND TURNS: what the parts of a run count of one entry is no more than the turns that they take.
use Rattle.std.proofs.Common.{◌≡◌, ◌⊎◌, inl, inr, ℕ, zero, suc, ◌+◌, ◌-◌, ◌≤◌, Bool, true, false, nat_le, if◌then◌else◌, arith}
use Rattle.std.specs.Prelude.{max}
use Rattle.cx_meaning.specs.Instances.{Path}
use Rattle.cx_meaning.specs.Answers.{Answer, End, More, Meaning, Turn, Ends, Goes, Test, Holds, Fails, Unclear, after_turns, then_do, stay, idle_turn, turn_then, turns_of, chosen, test_turn, loop, rounds, both}
use Rattle.cx_meaning.specs.Answers as answers
use Rattle.cx_rewrites.specs.Tallies.{Tally, none, plus, Counted, chosen_count, then_count, turn_count, turns_count, test_count, loop_count, rounds_count}

-- a count beside the answer for a budget: no more than the turns, which are within the budget
abbrev pub Fits : {S F : Type 0} → ℕ → ℕ → Answer S F → Type 0
Fits n m (End s t) = (m ≤ t) × (t ≤ n)
Fits n m (answers.Fault f t) = m ≤ n
Fits n m More = m ≤ n

module _ {S F : Type 0} where
  pub fits_within : (n m : ℕ) (o : Answer S F) → Fits n m o → m ≤ n
  fits_within n m (End s t) h = let few = h.0 in let within = h.1 in omega (arith, few, within)
  fits_within n m (answers.Fault f t) h = h
  fits_within n m More h = h

  -- so many turns later, of which not more were counted
  pub fits_later : (n k m a : ℕ) (o : Answer S F) → a ≤ k → k ≤ n → Fits (n - k) m o → Fits n (a + m) (after_turns k o)
  fits_later n k m a (End s t) few within h = let own = h.0 in let end = h.1 in (omega (arith, few, own), omega (arith, within, end))
  fits_later n k m a (answers.Fault f t) few within h = omega (arith, few, within, h)
  fits_later n k m a More few within h = omega (arith, few, within, h)

  pub fits_next : (n m a : ℕ) (o : Answer S F) → a ≤ 1 → Fits n m o → Fits (suc n) (a + m) (after_turns 1 o)
  fits_next n m a (End s t) few h = let own = h.0 in let end = h.1 in (omega (arith, few, own), omega (arith, end))
  fits_next n m a (answers.Fault f t) few h = omega (arith, few, h)
  fits_next n m a More few h = omega (arith, few, h)

  pub fits_wait : (n m : ℕ) (o : Answer S F) → Fits n m o → Fits (suc n) m (after_turns 1 o)
  fits_wait n m (End s t) h = let own = h.0 in let end = h.1 in (omega (arith, own), omega (arith, end))
  fits_wait n m (answers.Fault f t) h = omega (arith, h)
  fits_wait n m More h = omega (arith, h)

-- nothing is counted in no turn, or in an idle one
module _ {S : Type 0} (F : Type 0) where
  pub fits_idle : (rest : S → S) (s : S) (n : ℕ) → Fits n 0 (idle_turn {F = F} rest s n)
  fits_idle rest s zero = omega arith
  fits_idle rest s (suc n) = (omega arith, omega arith)

  pub fits_stay : (s : S) (n : ℕ) → Fits n 0 (stay {F = F} s n)
  fits_stay s n = (omega arith, omega arith)

-- one entry of a tally
module _ (path : Path) (g : ℕ) where
  abbrev pub FitsIn : {S F : Type 0} → Meaning S F → Counted S → Type 0
  FitsIn {S} meaning counts = (s : S) (n : ℕ) → Fits n (counts s n path g) (meaning s n)

  module _ {S F : Type 0} where
    pub fits_then : (n a : ℕ) (o : Answer S F) (go : Meaning S F) (counts : Counted S) → Fits n a o → FitsIn go counts → Fits n (a + then_count o n counts path g) (then_do o n go)
    fits_then n a (End s t) go counts h each = fits_later n t (counts s (n - t) path g) a (go s (n - t)) h.0 h.1 (each s (n - t))
    fits_then n a (answers.Fault f t) go counts h each = omega (arith, h)
    fits_then n a More go counts h each = omega (arith, h)

    pub fits_turn : (rest : S → S) (s : S) (n : ℕ) (one : Tally) (t : Turn S F) (counts : S → Tally) (go : S → Answer S F) → one path g ≤ 1 → ((a : S) → Fits n (counts a path g) (go a))
        → Fits (suc n) (turn_count t (λ after. plus one (counts after)) path g) (turn_then rest s t go)
    fits_turn rest s n one Ends counts go few each = (omega arith, omega arith)
    fits_turn rest s n one (Goes a) counts go few each = fits_next n (counts a path g) (one path g) (go a) few (each a)
    fits_turn rest s n one (answers.Faults f) counts go few each = omega arith

    pub fits_turns : (rest : S → S) (turn : S → Turn S F) (one : Tally) → one path g ≤ 1 → FitsIn (turns_of rest turn) (turns_count turn one)
    fits_turns rest turn one few s zero = omega arith
    fits_turns rest turn one few s (suc n) = fits_turn rest s n one (turn s) (λ a. turns_count turn one a n) (λ a. turns_of rest turn a n) few (λ a. fits_turns rest turn one few a n)

    pub fits_test : (rest : S → S) (test : S → Test F) (first second : Meaning S F) (one two : Counted S) → FitsIn first one → FitsIn second two → FitsIn (test_turn rest test first second) (test_count rest test one two)
    fits_test rest test first second one two h k s zero = omega arith
    fits_test rest test first second one two h k s (suc n) = by (test s)
      where
        by : (t : Test F) → Fits (suc n) (chosen_count t (one (rest s) n) (two (rest s) n) path g) (chosen t (first (rest s) n) (second (rest s) n))
        by Holds = fits_wait n (one (rest s) n path g) (first (rest s) n) (h (rest s) n)
        by Fails = fits_wait n (two (rest s) n path g) (second (rest s) n) (k (rest s) n)
        by (Unclear f) = omega arith

    pub fits_loop : (tests : ℕ) (rest : S → S) (test : S → Test F) (body : Meaning S F) (counts : Counted S) → FitsIn body counts → FitsIn (loop tests rest test body) (loop_count tests rest test body counts)
    fits_loop zero rest test body counts h s n = omega arith
    fits_loop (suc tests) rest test body counts h s n =
        fits_test rest test (λ a m. then_do (body a m) m (loop tests rest test body)) stay (λ a m. plus (counts a m) (then_count (body a m) m (loop_count tests rest test body counts))) (λ a m. none)
        (λ a m. fits_then m (counts a m path g) (body a m) (loop tests rest test body) (loop_count tests rest test body counts) (h a m) (fits_loop tests rest test body counts h)) (fits_stay F) s n

    pub fits_rounds : (times : ℕ) (body : Meaning S F) (counts : Counted S) → FitsIn body counts → FitsIn (rounds times body) (rounds_count times body counts)
    fits_rounds zero body counts h s n = fits_stay F s n
    fits_rounds (suc times) body counts h s n = fits_then n (counts s n path g) (body s n) (rounds times body) (rounds_count times body counts) (h s n) (fits_rounds times body counts h)

    -- two arms, of which one counts nothing of the entry
    pub fits_both : (merged : S → S → S) (n a b : ℕ) (o p : Answer S F) → (a ≡ 0) ⊎ (b ≡ 0) → Fits n a o → Fits n b p → Fits n (a + b) (both merged o p)
    fits_both merged n a b o p one h k = by o p h k
      where
        few : a ≤ n → b ≤ n → a + b ≤ n
        few = by_one one
          where
            by_one : (a ≡ 0) ⊎ (b ≡ 0) → a ≤ n → b ≤ n → a + b ≤ n
            by_one (inl e) = λ x y. omega (arith, e, y)
            by_one (inr e) = λ x y. omega (arith, e, x)

        longer : (t u : ℕ) → a ≤ t → b ≤ u → a + b ≤ max t u
        longer t u x y = by_one one
          where
            by_one : (a ≡ 0) ⊎ (b ≡ 0) → a + b ≤ max t u
            by_one (inl e) = omega (arith, e, y)
            by_one (inr e) = omega (arith, e, x)

        by : (o p : Answer S F) → Fits n a o → Fits n b p → Fits n (a + b) (both merged o p)
        by (End s t) (End r u) (x, in_n) (y, in_too) = (longer t u x y, omega (arith, in_n, in_too))
        by (End s t) (answers.Fault f u) (x, in_n) y = few (omega (arith, x, in_n)) y
        by (End s t) More (x, in_n) y = few (omega (arith, x, in_n)) y
        by (answers.Fault f t) (End r u) x (y, in_n) = few x (omega (arith, y, in_n))
        by (answers.Fault f t) (answers.Fault e u) x y = of_earlier (nat_le t u)
          where
            of_earlier : (c : Bool) → Fits {S = S} {F = F} n (a + b) (if c then answers.Fault f t else answers.Fault e u)
            of_earlier true = few x y
            of_earlier false = few x y
        by (answers.Fault f t) More x y = few x y
        by More (End r u) x (y, in_n) = few x (omega (arith, y, in_n))
        by More (answers.Fault e u) x y = few x y
        by More More x y = few x y
