-- Lists whose elements are told with their numbers.
use Rattle.std.specs.Prelude.{ℕ, suc, List, [], ◌∷◌, ◌++◌}

-- each element with its number, counted from n
abbrev pub numbered_from : {A B : Type 0} → (ℕ → A → B) → ℕ → List A → List B
numbered_from f n [] = []
numbered_from f n (x ∷ xs) = f n x ∷ numbered_from f (suc n) xs

abbrev pub with_numbers : {A B : Type 0} → (ℕ → A → B) → List A → List B
with_numbers f xs = numbered_from f 0 xs

-- the same, where each element gives a list
abbrev pub lists_from : {A B : Type 0} → (ℕ → A → List B) → ℕ → List A → List B
lists_from f n [] = []
lists_from f n (x ∷ xs) = f n x ++ lists_from f (suc n) xs
