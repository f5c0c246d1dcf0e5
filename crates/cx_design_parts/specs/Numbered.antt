-- The breaks of numbered parts, in the order of the parts.
use Rattle.std.specs.Prelude.{ℕ, zero, suc, List, [], ◌∷◌, ◌++◌}
use Rattle.cx_design_parts.specs.Breaks.{Broken}

-- from a number on
abbrev pub numbered : {A : Type 0} → (ℕ → A → List Broken) → ℕ → List A → List Broken
numbered f n [] = []
numbered f n (x ∷ xs) = f n x ++ numbered f (suc n) xs

-- those of as many numbers, from one on
abbrev pub counted : (ℕ → List Broken) → ℕ → ℕ → List Broken
counted f n zero = []
counted f n (suc left) = f n ++ counted f (suc n) left
