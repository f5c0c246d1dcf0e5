-- Numbers of a list: whether it has one says whether one is in it, and numbers that are apart are no more than there are.
use Rattle.std.proofs.Common.{◌≡◌, inl, inr, ℕ, ◌≤◌, zero, suc, true, ◌||◌, List, [], ◌∷◌, length, nat_eq, refl, ap, sym, ◌∙◌, eq-eqb}
use Rattle.std.proofs.lemmas.Bool.Decides.{eqb_tells}
use Rattle.cx_text.specs.Members.{In}
use Rattle.cx_rules.proofs.Finite.{Distinct, distinct_few}
use Rattle.cx_wiring.specs.Reached.{numbers_from, has_number}
use Rattle.cx_wiring.proofs.MainLaws.{Tells}
use Rattle.std.proofs.lemmas.Bool.{or_right}

pub number_in : (k : ℕ) (ns : List ℕ) → has_number k ns ≡ true → In ns k
number_in k [] h = absurd (cc)
number_in k (n ∷ rest) h = one (eqb_tells k n) (number_in k rest) h
  where
    one : Tells k n → (has_number k rest ≡ true → In rest k) → has_number k (n ∷ rest) ≡ true → In (n ∷ rest) k
    one (inl e) later g = inl (sym e.1)
    one (inr e) later g = inr (later (ap (λ b. b || has_number k rest) (sym e.0) ∙ g))

pub in_number : (k : ℕ) (ns : List ℕ) → In ns k → has_number k ns ≡ true
in_number k [] i = absurd i
in_number k (n ∷ rest) (inl e) = ap (λ x. nat_eq k x || has_number k rest) e ∙ ap (λ b. b || has_number k rest) (eq-eqb k k refl)
in_number k (n ∷ rest) (inr i) = or_right (nat_eq k n) (has_number k rest) (in_number k rest i)

-- numbers that are apart and all in a list are no more than its entries
pub few_apart : (ks ns : List ℕ) → Distinct ks → ((j : ℕ) → has_number j ks ≡ true → has_number j ns ≡ true) → length ks ≤ length ns
few_apart ks ns apart among = distinct_few ks ns apart (λ k i. number_in k ns (among k (in_number k ks i)))

pub length-numbers_from : (n k : ℕ) → length (numbers_from n k) ≡ k
length-numbers_from n zero = refl
length-numbers_from n (suc k) = ap suc (length-numbers_from (suc n) k)
