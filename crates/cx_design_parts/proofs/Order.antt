-- The order of lists of numbers of one length: where none comes before the next, none comes before a later one.
use Rattle.std.proofs.Common.{◌≡◌, ◌≤◌, ℕ, Bool, true, false, ◌&&◌, ◌||◌, nat_lt, nat_eq, List, [], ◌∷◌, length, refl, arith, tests}
use Rattle.cx_rules.specs.Accepted.{comes_before}

not_after : (x y : ℕ) (b : Bool) → nat_lt x y || (nat_eq x y && b) ≡ false → y ≤ x
not_after x y b h = grind (arith, tests)

if_equal : (x y : ℕ) (b : Bool) → nat_lt x y || (nat_eq x y && b) ≡ false → x ≡ y → b ≡ false
if_equal x y b h e = grind (arith, tests)

not_before : (x z : ℕ) (b : Bool) → z ≤ x → (x ≡ z → b ≡ false) → nat_lt x z || (nat_eq x z && b) ≡ false
not_before x z b h e = grind (arith, tests)

pub not_before_later : (xs ys zs : List ℕ) → length xs ≡ length ys → length ys ≡ length zs
    → comes_before xs ys ≡ false → comes_before ys zs ≡ false → comes_before xs zs ≡ false
not_before_later [] ys zs m n a b = refl
not_before_later (x ∷ xs) [] zs m n a b = absurd (omega (arith, m))
not_before_later (x ∷ xs) (y ∷ ys) [] m n a b = absurd (omega (arith, n))
not_before_later (x ∷ xs) (y ∷ ys) (z ∷ zs) m n a b =
    let p : y ≤ x = not_after x y (comes_before xs ys) a in
    let q : z ≤ y = not_after y z (comes_before ys zs) b in
    not_before x z (comes_before xs zs) (omega (arith, p, q))
    (λ e. not_before_later xs ys zs (omega (arith, m)) (omega (arith, n)) (if_equal x y (comes_before xs ys) a (omega (arith, p, q, e))) (if_equal y z (comes_before ys zs) b (omega (arith, p, q, e))))

one_way_step : (x y : ℕ) (b c : Bool) → (b ≡ true → c ≡ false) → nat_lt x y || (nat_eq x y && b) ≡ true → nat_lt y x || (nat_eq y x && c) ≡ false
one_way_step x y b c f h = grind (arith, tests)

pub not_both : (xs ys : List ℕ) → comes_before xs ys ≡ true → comes_before ys xs ≡ false
not_both [] [] h = refl
not_both [] (y ∷ ys) h = absurd (cc)
not_both (x ∷ xs) [] h = refl
not_both (x ∷ xs) (y ∷ ys) h = one_way_step x y (comes_before xs ys) (comes_before ys xs) (not_both xs ys) h
