-- Sums over lists whose elements are told with their numbers.
use Rattle.std.proofs.Common.{◌≡◌, ℕ, suc, ◌+◌, ◌*◌, ◌<◌, ◌≤◌, List, [], ◌∷◌, ◌++◌, length, arith, suc-mul, zero-mul}
use Rattle.cx_text.specs.Members.{Each}
use Rattle.cx_emit.specs.Numbered.{numbered_from, lists_from}
use Rattle.cx_emitted.proofs.TextBytes.{sum_over}
use Rattle.cx_emitted.proofs.ModuleBytes.{sum_over-append}

pub sum_same : {A : Type 0} (c : ℕ) (xs : List A) → sum_over (λ x. c) xs ≡ length xs * c
sum_same c [] = omega (arith, zero-mul c)
sum_same c (x ∷ xs) = let h : sum_over (λ y. c) xs ≡ length xs * c = sum_same c xs in omega (arith, suc-mul (length xs) c)

pub from_zero : (n m : ℕ) → n ≤ m → 0 + n ≤ m
from_zero n m h = omega (arith, h)

-- numbers are below some bound
module _ {A B : Type 0} (f : B → ℕ) (h : A → ℕ) (P : A → Type 0) (bound : ℕ) where
  pub numbered_sum : (g : ℕ → A → B) → ((m : ℕ) (x : A) → m < bound → P x → f (g m x) ≤ h x) → (n : ℕ) (xs : List A) → n + length xs ≤ bound → Each P xs → sum_over f (numbered_from g n xs) ≤ sum_over h xs
  numbered_sum g each n [] few all = omega arith
  numbered_sum g each n (x ∷ xs) few all =
      let less : n < bound = omega arith in
      let own : f (g n x) ≤ h x = each n x less all.0 in
      let more : suc n + length xs ≤ bound = omega arith in
      let rest : sum_over f (numbered_from g (suc n) xs) ≤ sum_over h xs = numbered_sum g each (suc n) xs more all.1 in
      omega arith

  pub lists_sum : (g : ℕ → A → List B) → ((m : ℕ) (x : A) → m < bound → P x → sum_over f (g m x) ≤ h x) → (n : ℕ) (xs : List A) → n + length xs ≤ bound → Each P xs → sum_over f (lists_from g n xs) ≤ sum_over h xs
  lists_sum g each n [] few all = omega arith
  lists_sum g each n (x ∷ xs) few all =
      let less : n < bound = omega arith in
      let own : sum_over f (g n x) ≤ h x = each n x less all.0 in
      let more : suc n + length xs ≤ bound = omega arith in
      let rest : sum_over f (lists_from g (suc n) xs) ≤ sum_over h xs = lists_sum g each (suc n) xs more all.1 in
      let both : sum_over f (g n x ++ lists_from g (suc n) xs) ≡ sum_over f (g n x) + sum_over f (lists_from g (suc n) xs) = sum_over-append f (g n x) (lists_from g (suc n) xs) in
      omega arith
