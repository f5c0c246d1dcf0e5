-- How many of the first numbers pass a test.
use Rattle.std.proofs.Common.{◌≡◌, ◌+◌, ◌<◌, ◌≤◌, ℕ, zero, suc, Bool, true, false, cond, ◌⊎◌, inl, inr, ⊎_elim, refl, sym, ap, subst, arith, true≢false}

abbrev bit : Bool → ℕ
bit b = cond b 1 0

abbrev pub count : (ℕ → Bool) → ℕ → ℕ
count f zero = 0
count f (suc n) = bit (f n) + count f n

bit_few : (b : Bool) → bit b ≤ 1
bit_few true = omega arith
bit_few false = omega arith

count_few : (f : ℕ → Bool) (n : ℕ) → count f n ≤ n
count_few f zero = omega arith
count_few f (suc n) = let rest = count_few f n in let first = bit_few (f n) in omega (arith, rest, first)

bit_grows : (a b : Bool) → (a ≡ true → b ≡ true) → bit a ≤ bit b
bit_grows true true h = omega arith
bit_grows true false h = absurd (true≢false (sym (h refl)))
bit_grows false b h = omega arith

count_grows : (f g : ℕ → Bool) → ((n : ℕ) → f n ≡ true → g n ≡ true) → (n : ℕ) → count f n ≤ count g n
count_grows f g h zero = omega arith
count_grows f g h (suc n) = let rest = count_grows f g h n in let first = bit_grows (f n) (g n) (h n) in omega (arith, rest, first)

bit_same : (a b : Bool) → (a ≡ true → b ≡ true) → (b ≡ true → a ≡ true) ⊎ (bit a + 1 ≤ bit b)
bit_same true b h = inl (λ _. refl)
bit_same false true h = inr (omega arith)
bit_same false false h = inl (λ e. e)

before_or_at : (m n : ℕ) → m < suc n → (m < n) ⊎ (n ≡ m)
before_or_at m zero few = inr (omega (arith, few))
before_or_at zero (suc n) few = inl (omega arith)
before_or_at (suc m) (suc n) few = ⊎_elim (λ l. inl (omega (arith, l))) (λ e. inr (ap suc e)) (before_or_at m n (omega (arith, few)))

-- the numbers that pass one test pass the other, or more pass the other
pub same_or_more : (f g : ℕ → Bool) → ((n : ℕ) → f n ≡ true → g n ≡ true) → (n : ℕ)
    → ((m : ℕ) → m < n → g m ≡ true → f m ≡ true) ⊎ (count f n + 1 ≤ count g n)
same_or_more f g h zero = inl (λ m few. absurd (omega (arith, few)))
same_or_more f g h (suc n) =
    ⊎_elim
    (λ same. ⊎_elim
    (λ back. inl (λ m few. ⊎_elim (λ earlier. same m earlier) (λ e. subst (λ k. g k ≡ true → f k ≡ true) e back) (before_or_at m n few)))
    (λ more. inr (let rest = count_grows f g h n in omega (arith, rest, more)))
    (bit_same (f n) (g n) (h n)))
    (λ more. inr (let first = bit_grows (f n) (g n) (h n) in omega (arith, first, more)))
    (same_or_more f g h n)

bit_full : (b : Bool) → 1 ≤ bit b → b ≡ true
bit_full true h = refl
bit_full false h = absurd (omega (arith, h))

-- where as many pass as there are, each passes
pub all_pass : (f : ℕ → Bool) (n : ℕ) → n ≤ count f n → (m : ℕ) → m < n → f m ≡ true
all_pass f zero h m few = absurd (omega (arith, few))
all_pass f (suc n) h m few =
    let rest = count_few f n in
    let first = bit_few (f n) in
    let last : f n ≡ true = bit_full (f n) (omega (arith, h, rest)) in
    ⊎_elim (λ l. all_pass f n (omega (arith, h, first)) m l) (λ e. subst (λ k. f k ≡ true) e last) (before_or_at m n few)
