-- The first fault of cells that stand one behind the other.
use Rattle.std.proofs.Common.{◌≡◌, ℕ, zero, suc, ◌+◌, Option, refl, sym, ap, ◌∙◌, arith}
use Rattle.cx_meaning.specs.Cycles.{Fault, Outcome, Next, Stops, first_of, first_fault}
use Rattle.cx_flattening.specs.Deeds.{or_later}

-- THE FIRST FAULT of m cells and then n more
one_first : (c : ℕ) (x : Outcome) (first second : Option Fault) → first_of c x (or_later first second) ≡ or_later (first_of c x first) second
one_first c (Next after) first second = refl
one_first c (Stops kind p) first second = refl

pub first_split : (outcome : ℕ → Outcome) (c m n : ℕ) → first_fault outcome c (m + n) ≡ or_later (first_fault outcome c m) (first_fault outcome (c + m) n)
first_split outcome c zero n = ap (λ k. first_fault outcome c k) (zero_plus n) ∙ ap (λ k. first_fault outcome k n) (sym (plus_zero c))
  where
    zero_plus : (k : ℕ) → 0 + k ≡ k
    zero_plus k = omega arith

    plus_zero : (k : ℕ) → k + 0 ≡ k
    plus_zero k = omega arith
first_split outcome c (suc m) n =
    ap (λ k. first_fault outcome c k) (suc_plus m n)
    ∙ ap (first_of c (outcome c)) (first_split outcome (suc c) m n ∙ ap (λ k. or_later (first_fault outcome (suc c) m) (first_fault outcome k n)) (plus_suc c m))
    ∙ one_first c (outcome c) (first_fault outcome (suc c) m) (first_fault outcome (c + suc m) n)
  where
    suc_plus : (k j : ℕ) → suc k + j ≡ suc (k + j)
    suc_plus k j = omega arith

    plus_suc : (k j : ℕ) → suc k + j ≡ k + suc j
    plus_suc k j = omega arith
