-- How many numbers below a bound a test takes; tests that hold for more and more numbers hold for no more at some time.
use Rattle.std.proofs.Common.{◌≡◌, ℕ, zero, suc, ◌+◌, ◌-◌, ◌<◌, ◌≤◌, ◌⊎◌, inl, inr, Bool, true, false, refl, sym, ap, ◌∙◌, arith, subst, true≢false, below_more}
use Rattle.cx_rules.specs.StaticControl.{one_if}

abbrev count : (ℕ → Bool) → ℕ → ℕ
count p zero = 0
count p (suc k) = one_if (p k) + count p k

one_within : (b : Bool) → one_if b ≤ 1
one_within true = omega arith
one_within false = omega arith

one_grows : (a b : Bool) → (a ≡ true → b ≡ true) → one_if a ≤ one_if b
one_grows true b h = subst (λ c. 1 ≤ one_if c) (sym (h refl)) (omega arith)
one_grows false b h = omega arith

count_within : (p : ℕ → Bool) (k : ℕ) → count p k ≤ k
count_within p zero = omega arith
count_within p (suc k) = omega (arith, one_within (p k), count_within p k)

count_grows : (p q : ℕ → Bool) (k : ℕ) → ((i : ℕ) → p i ≡ true → q i ≡ true) → count p k ≤ count q k
count_grows p q zero more = omega arith
count_grows p q (suc k) more = omega (arith, one_grows (p k) (q k) (more k), count_grows p q k more)

-- a test that holds wherever another does holds nowhere else, or for more numbers
same_or_more : (p q : ℕ → Bool) (k : ℕ) → ((i : ℕ) → p i ≡ true → q i ≡ true) → ((i : ℕ) → i < k → q i ≡ true → p i ≡ true) ⊎ (count p k < count q k)
same_or_more p q zero more = inl (λ i within h. absurd (omega (arith, within)))
same_or_more p q (suc k) more = by (p k) (q k) refl refl (same_or_more p q k more)
  where
    by : (a b : Bool) → p k ≡ a → q k ≡ b → ((i : ℕ) → i < k → q i ≡ true → p i ≡ true) ⊎ (count p k < count q k)
        → ((i : ℕ) → i < suc k → q i ≡ true → p i ≡ true) ⊎ (one_if (p k) + count p k < one_if (q k) + count q k)
    by a b e f (inr less) = inr (omega (arith, less, one_grows (p k) (q k) (more k)))
    by true b e f (inl same) = inl (λ i within. below_more (λ j. q j ≡ true → p j ≡ true) k same (λ h. e) i (omega (arith, within)))
    by false true e f (inl same) = let none : one_if (p k) ≡ 0 = ap one_if e in let some : one_if (q k) ≡ 1 = ap one_if f in inr (omega (arith, none, some, count_grows p q k more))
    by false false e f (inl same) = inl (λ i within. below_more (λ j. q j ≡ true → p j ≡ true) k same (λ h. absurd (true≢false (sym h ∙ f))) i (omega (arith, within)))

module _ (t : ℕ → ℕ → Bool) (k : ℕ) (more : (n i : ℕ) → t n i ≡ true → t (suc n) i ≡ true) where
  -- the test holds for no more numbers the next time
  abbrev pub Closed : ℕ → Type 0
  Closed n = (i : ℕ) → i < k → t (suc n) i ≡ true → t n i ≡ true

  closed_or_many : (n : ℕ) → ((m : ℕ) × (m < n) × Closed m) ⊎ (n ≤ count (t n) k)
  closed_or_many zero = inr (omega arith)
  closed_or_many (suc n) = by (closed_or_many n) (same_or_more (t n) (t (suc n)) k (more n))
    where
      by : ((m : ℕ) × (m < n) × Closed m) ⊎ (n ≤ count (t n) k) → ((i : ℕ) → i < k → t (suc n) i ≡ true → t n i ≡ true) ⊎ (count (t n) k < count (t (suc n)) k)
          → ((m : ℕ) × (m < suc n) × Closed m) ⊎ (suc n ≤ count (t (suc n)) k)
      by (inl w) s = inl (w.0, omega (arith, w.1), w.2)
      by (inr many) (inl same) = inl (n, omega arith, same)
      by (inr many) (inr less) = inr (omega (arith, many, less))

  closed_up : (d m n : ℕ) → ((j : ℕ) → Closed j → Closed (suc j)) → d + m ≡ n → Closed m → Closed n
  closed_up zero m n step e c = let same : m ≡ n = omega (arith, e) in subst (λ j. Closed j) same c
  closed_up (suc d) m n step e c = closed_up d (suc m) n step (omega (arith, e)) (step m c)

  -- after as many times as there are numbers
  pub closed_all : ((j : ℕ) → Closed j → Closed (suc j)) → Closed k
  closed_all step = by (closed_or_many (suc k))
    where
      by : ((m : ℕ) × (m < suc k) × Closed m) ⊎ (suc k ≤ count (t (suc k)) k) → Closed k
      by (inl w) = closed_up (k - w.0) w.0 k step (omega (arith, w.1)) w.2
      by (inr many) = absurd (omega (arith, many, count_within (t (suc k)) k))
