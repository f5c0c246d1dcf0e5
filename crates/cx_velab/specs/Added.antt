-- What is appended to a list, element by element.
use Rattle.std.specs.Prelude.{◌≡◌, List, [], ◌∷◌, ◌++◌}

-- two lists are related element by element
abbrev pub Paired : {A B : Type 0} → (A → B → Type 0) → List A → List B → Type 0
Paired R [] [] = Unit {0}
Paired R (x ∷ xs) (y ∷ ys) = R x y × Paired R xs ys
Paired R [] (y ∷ ys) = ⊥
Paired R (x ∷ xs) [] = ⊥

-- an element for each of some others comes behind what was there
abbrev pub Adds : {A B : Type 0} → (A → B → Type 0) → List A → List A → List B → Type 0
Adds {A} R old new others = (made : List A) × (new ≡ old ++ made) × Paired R made others
