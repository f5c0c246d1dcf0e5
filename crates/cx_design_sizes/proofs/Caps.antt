-- Counts that stop, as loops make them.
use Rattle.std.proofs.Common.{◌≡◌, ℕ, zero, suc, ◌+◌, ◌-◌, ◌*◌, ◌^◌, ◌<◌, ◌≤◌, min, max, List, [], length, drop, sym, ap, ◌∙◌, subst, arith, ⊎_elim}
use Rattle.std.proofs.lemmas.Bool.{cases_lt}
use Rattle.std.proofs.Math.ListN.{drop_of_length-le}
use Rattle.std.proofs.Math.Nat.{mul-suc, mul_assoc}
use Rattle.cx_design_sizes.specs.Capped.{capped}

-- a sum that has gone through its list
pub ended : {A : Type 0} (count : List A → ℕ) (xs : List A) (i n : ℕ) → count [] ≡ 0 → length xs ≤ i → n ≤ 2 ^ 64 - 1 → capped (n + count (drop i xs)) ≡ capped (count xs) → n ≡ capped (count xs)
ended count xs i n none past small e =
    let rest : count (drop i xs) ≡ 0 = ap count (drop_of_length-le xs past) ∙ none in
    let f : capped n ≡ capped (n + count (drop i xs)) = ap capped (let g : n ≡ n + count (drop i xs) = omega arith in g) in
    let s : n ≡ capped n = omega arith in
    s ∙ f ∙ e

-- a maximum that has
pub ended_max : {A : Type 0} (count : List A → ℕ) (xs : List A) (i n : ℕ) → count [] ≡ 0 → length xs ≤ i → n ≤ 2 ^ 64 - 1 → capped (max n (count (drop i xs))) ≡ capped (count xs) → n ≡ capped (count xs)
ended_max count xs i n none past small e =
    let rest : count (drop i xs) ≡ 0 = ap count (drop_of_length-le xs past) ∙ none in
    let f : capped n ≡ capped (max n (count (drop i xs))) = ap capped (let g : n ≡ max n (count (drop i xs)) = omega arith in g) in
    let s : n ≡ capped n = omega arith in
    s ∙ f ∙ e

-- a product that has
pub ended_product : {A : Type 0} (count : List A → ℕ) (xs : List A) (i n : ℕ) → count [] ≡ 1 → length xs ≤ i → n ≤ 2 ^ 64 - 1 → capped (n * count (drop i xs)) ≡ capped (count xs) → n ≡ capped (count xs)
ended_product count xs i n none past small e =
    let rest : count (drop i xs) ≡ 1 = ap count (drop_of_length-le xs past) ∙ none in
    let f : capped n ≡ capped (n * count (drop i xs)) = ap capped (let g : n ≡ n * 1 = omega arith in g ∙ ap (λ x. n * x) (sym rest)) in
    let s : n ≡ capped n = omega arith in
    s ∙ f ∙ e

grown : (p r : ℕ) → 2 ^ 64 - 1 ≤ p → 2 ^ 64 - 1 ≤ p * suc r
grown p r h = let e : p * suc r ≡ p * r + p = mul-suc p r in omega arith

-- one factor more
pub product_more : (w s r : ℕ) → capped (min (w * s) (2 ^ 64 - 1) * r) ≡ capped (w * (s * r))
product_more w s r = ⊎_elim small (large r) (cases_lt (w * s) (2 ^ 64 - 1))
  where
    small : w * s < 2 ^ 64 - 1 → capped (min (w * s) (2 ^ 64 - 1) * r) ≡ capped (w * (s * r))
    small lt = let e : min (w * s) (2 ^ 64 - 1) ≡ w * s = omega arith in ap (λ x. capped (x * r)) e ∙ ap capped (mul_assoc w s r)

    large : (r : ℕ) → 2 ^ 64 - 1 ≤ w * s → capped (min (w * s) (2 ^ 64 - 1) * r) ≡ capped (w * (s * r))
    large zero ge =
        let a : min (w * s) (2 ^ 64 - 1) * zero ≡ 0 = omega arith in
        let b : w * (s * zero) ≡ 0 = (let c : s * zero ≡ 0 = omega arith in ap (λ x. w * x) c ∙ (let g : w * 0 ≡ 0 = omega arith in g)) in
        ap capped (a ∙ sym b)
    large (suc r) ge =
        let e : min (w * s) (2 ^ 64 - 1) ≡ 2 ^ 64 - 1 = omega arith in
        let m : 2 ^ 64 - 1 ≤ min (w * s) (2 ^ 64 - 1) * suc r = grown (min (w * s) (2 ^ 64 - 1)) r (omega arith) in
        let n : 2 ^ 64 - 1 ≤ w * (s * suc r) = subst (λ x. 2 ^ 64 - 1 ≤ x) (mul_assoc w s (suc r)) (grown (w * s) r ge) in
        omega arith
