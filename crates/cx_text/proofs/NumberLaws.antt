-- Facts of numbers.
use Rattle.std.proofs.Common.{◌≡◌, true, false, ℕ, ◌<◌, ◌≤◌, ◌≢◌, inl, inr, ◌⊎◌, ⊎_elim, arith, nat_eq, tests, nat_lt, ◌+◌, Bool, refl, zero, suc, ap, not, nat_le, ◌*◌, zero-mul, suc-mul, ◌-◌, sym, ◌∙◌}
use Rattle.std.proofs.lemmas.Bool.{cases_lt, eqb-true, lt-ltb, le-ltb}
use Rattle.std.proofs.lemmas.Bool.Decides.{nat_tests}
use Rattle.std.specs.Prelude.{◌==◌, if◌then◌else◌}

pub never : {A : Type 0} → false ≡ true → A
never e = absurd cc

pub same_or : (m n : ℕ) → (m ≡ n) ⊎ (m ≢ n)
same_or m n = ⊎_elim (λ (lt : m < n). inr (λ e. (let f : m ≡ n = e in omega arith))) (λ (le : n ≤ m). ⊎_elim (λ (lt : n < m). inr (λ e. (let f : m ≡ n = e in omega arith))) (λ (ge : m ≤ n). inl (omega arith)) (cases_lt n m)) (cases_lt m n)

pub equal : (x : ℕ) → nat_eq x x ≡ true
equal x = grind (arith, tests)

pub false_true : false ≡ true → ⊥
false_true e = cc

pub apart_numbers : (y c : ℕ) → y < c → nat_eq y c ≡ false
apart_numbers y c lt = grind (arith, nat_tests)

pub from_eq : (x y : ℕ) → nat_eq x y ≡ true → x ≡ y
from_eq x y h = grind (arith, tests)

pub lt_true : (m n : ℕ) → m < n → nat_lt m n ≡ true
lt_true m n h = grind arith

pub is_at : (n m : ℕ) → n ≡ m → (n == m) ≡ true
is_at n m e = grind (arith, nat_tests)

pub apart_above : (y c : ℕ) → c < y → nat_eq y c ≡ false
apart_above y c lt = grind (arith, nat_tests)

pub true_lt : (m n : ℕ) → nat_lt m n ≡ true → m < n
true_lt m n e = grind arith

pub no_less : (m : ℕ) → m < 0 → ⊥
no_less m h = absurd (omega arith)

pub true_false : true ≡ false → ⊥
true_false e = cc

pub same_numbers : (y c : ℕ) → y ≡ c → nat_eq y c ≡ true
same_numbers y c e = grind (arith, nat_tests)

pub before_more : (k c : ℕ) → c < k + 1 → (c < k) ⊎ (c ≡ k)
before_more k c h = ⊎_elim inl (λ l. inr (omega (arith, h, l))) (cases_lt c k)

pub other : (k c : ℕ) → (k ≡ c → ⊥) → nat_eq k c ≡ false
other k c ne = by_case (nat_eq k c) refl
  where
    by_case : (b : Bool) → nat_eq k c ≡ b → nat_eq k c ≡ false
    by_case true e = absurd (ne (eqb-true k c e))
    by_case false e = e

pub same_or_not : (m n : ℕ) → (m ≡ n) ⊎ (m ≡ n → ⊥)
same_or_not zero zero = inl refl
same_or_not zero (suc n) = inr (λ e. omega arith)
same_or_not (suc m) zero = inr (λ e. omega arith)
same_or_not (suc m) (suc n) = ⊎_elim (λ e. inl (ap suc e)) (λ d. inr (λ e. d (omega (arith, e)))) (same_or_not m n)

pub turned : (x y : ℕ) → not (nat_lt y x) ≡ nat_le x y
turned x y = grind (arith, nat_tests)

pub times_none : (e : ℕ) → e * 0 ≡ 0
times_none zero = omega (arith, zero-mul 0)
times_none (suc e) = let h : e * 0 ≡ 0 = times_none e in omega (arith, suc-mul e 0)

pub times_one : (e : ℕ) → e * 1 ≡ e
times_one zero = omega (arith, zero-mul 1)
times_one (suc e) = let h : e * 1 ≡ e = times_one e in omega (arith, suc-mul e 1)

-- a test of equal widths
pub end_is : (w : ℕ) → (w == w) ≡ true
end_is w = grind (arith, nat_tests)

pub some_left : (left : ℕ) → 0 < left → left ≡ suc (left - 1)
some_left left lt = omega arith

pub suc_zero : (k : ℕ) → suc k ≡ zero → ⊥
suc_zero k e = omega arith

pub zero_suc : (k : ℕ) → zero ≡ suc k → ⊥
zero_suc k e = omega arith

pub same_choice : {A : Type 0} (j n : ℕ) (x y u v : A) → (j < n → x ≡ u) → (n ≤ j → y ≡ v) → (if nat_lt j n then x else y) ≡ (if nat_lt j n then u else v)
same_choice j n x y u v f g =
    ⊎_elim
    (λ l. let e = lt-ltb j n l in ap (λ b. if b then x else y) e ∙ f l ∙ sym (ap (λ b. if b then u else v) e))
    (λ l. let e = le-ltb j n l in ap (λ b. if b then x else y) e ∙ g l ∙ sym (ap (λ b. if b then u else v) e))
    (cases_lt j n)

pub true_false_also : {A : Type 0} → true ≡ false → A
true_false_also e = absurd cc

pub eq_next : (c d : ℕ) → nat_eq c d ≡ nat_eq (suc c) (suc d)
eq_next c d = grind (arith, tests)
