-- The order of keys.
use Rattle.std.proofs.Common.{◌≡◌, ℕ, ◌<◌, nat_eq, nat_lt, Bool, true, false, ◌||◌, ◌&&◌, inl, inr, ◌⊎◌, List, [], ◌∷◌, refl, sym, ap, ◌∙◌, subst, arith}
use Rattle.std.proofs.lemmas.Bool.{ltb-true, lt-ltb, eq-eqb, eqb-true}
use Rattle.cx_rules.specs.Accepted.{comes_before}

less_not : (n : ℕ) (b : Bool) → nat_lt n n ≡ b → b ≡ false
less_not n true e = absurd (let lt : n < n = ltb-true n n e in omega arith)
less_not n false e = refl

less_irreflexive : (n : ℕ) → nat_lt n n ≡ false
less_irreflexive n = less_not n (nat_lt n n) refl

pub before_irreflexive : (xs : List ℕ) → comes_before xs xs ≡ false
before_irreflexive [] = refl
before_irreflexive (x ∷ xs) = by (nat_lt x x) (nat_eq x x) (less_irreflexive x) (before_irreflexive xs)
  where
    by : (b c : Bool) → b ≡ false → comes_before xs xs ≡ false → (b || (c && comes_before xs xs)) ≡ false
    by true c e f = e
    by false true e f = f
    by false false e f = refl

pub before_cases : (x y : ℕ) (xs ys : List ℕ) → comes_before (x ∷ xs) (y ∷ ys) ≡ true → (x < y) ⊎ ((x ≡ y) × (comes_before xs ys ≡ true))
before_cases x y xs ys h = by (nat_lt x y) (nat_eq x y) refl refl h
  where
    by : (b c : Bool) → nat_lt x y ≡ b → nat_eq x y ≡ c → (b || (c && comes_before xs ys)) ≡ true → (x < y) ⊎ ((x ≡ y) × (comes_before xs ys ≡ true))
    by true c e f h = inl (ltb-true x y e)
    by false true e f h = inr (eqb-true x y f, h)
    by false false e f h = absurd (let g : false ≡ true = h in cc)

pub before_less : (x y : ℕ) (xs ys : List ℕ) → x < y → comes_before (x ∷ xs) (y ∷ ys) ≡ true
before_less x y xs ys lt = ap (λ b. b || (nat_eq x y && comes_before xs ys)) (lt-ltb x y lt)

pub before_equal : (x : ℕ) (xs ys : List ℕ) → comes_before xs ys ≡ true → comes_before (x ∷ xs) (x ∷ ys) ≡ true
before_equal x xs ys h = by (nat_lt x x) (nat_eq x x) (eq-eqb x x refl)
  where
    by : (b c : Bool) → c ≡ true → (b || (c && comes_before xs ys)) ≡ true
    by true c e = refl
    by false c e = ap (λ d. d && comes_before xs ys) e ∙ h

-- what comes before something comes before what that comes before
pub before_transitive : (xs ys zs : List ℕ) → comes_before xs ys ≡ true → comes_before ys zs ≡ true → comes_before xs zs ≡ true
before_transitive [] ys zs h k = absurd (let g : false ≡ true = h in cc)
before_transitive (x ∷ xs) [] zs h k = absurd (let g : false ≡ true = h in cc)
before_transitive (x ∷ xs) (y ∷ ys) [] h k = absurd (let g : false ≡ true = k in cc)
before_transitive (x ∷ xs) (y ∷ ys) (z ∷ zs) h k = by (before_transitive xs ys zs) (before_cases x y xs ys h) (before_cases y z ys zs k)
  where
    by : (comes_before xs ys ≡ true → comes_before ys zs ≡ true → comes_before xs zs ≡ true)
        → (x < y) ⊎ ((x ≡ y) × (comes_before xs ys ≡ true)) → (y < z) ⊎ ((y ≡ z) × (comes_before ys zs ≡ true)) → comes_before (x ∷ xs) (z ∷ zs) ≡ true
    by deep (inl a) (inl b) = before_less x z xs zs (omega arith)
    by deep (inl a) (inr (e, b)) = before_less x z xs zs (subst (λ n. x < n) e a)
    by deep (inr (e, a)) (inl b) = before_less x z xs zs (subst (λ n. n < z) (sym e) b)
    by deep (inr (e, a)) (inr (f, b)) = subst (λ n. comes_before (x ∷ xs) (n ∷ zs) ≡ true) (e ∙ f) (before_equal x xs zs (deep a b))
