-- Facts of what `Names` defines, that several crates above take.
use Rattle.std.proofs.Common.{◌≡◌, ℕ, Bool, true, false, ◌&&◌, ◌||◌, List, [], ◌∷◌, Option, Some, None, cond, nat_eq, is_some, refl, sym, ap, ◌∙◌}
use Rattle.std.specs.Cmp.Lexicographic.{pointwise, bytes_decides}
use Rattle.cx_numbering.specs.Names.{same_name, number_of, later, is_among}

pub same_name-pointwise : (xs ys : List ℕ) → same_name xs ys ≡ pointwise nat_eq xs ys
same_name-pointwise [] [] = refl
same_name-pointwise [] (y ∷ ys) = refl
same_name-pointwise (x ∷ xs) [] = refl
same_name-pointwise (x ∷ xs) (y ∷ ys) = ap (λ b. nat_eq x y && b) (same_name-pointwise xs ys)

pub same_name-true : (xs ys : List ℕ) → same_name xs ys ≡ true → xs ≡ ys
same_name-true xs ys h = (bytes_decides xs ys).0 (sym (same_name-pointwise xs ys) ∙ h)

pub same_name-refl : (xs : List ℕ) → same_name xs xs ≡ true
same_name-refl xs = same_name-pointwise xs xs ∙ (bytes_decides xs xs).1 refl

-- a name is among a list's names where it is the first or among the rest
pub is_among-cons : (n x : List ℕ) (xs : List (List ℕ)) → is_among n (x ∷ xs) ≡ (same_name x n || is_among n xs)
is_among-cons n x xs = by (same_name x n) (number_of n xs)
  where
    by : (b : Bool) (o : Option ℕ) → is_some (cond b (Some 0) (later o)) ≡ (b || is_some o)
    by true o = refl
    by false None = refl
    by false (Some k) = refl
