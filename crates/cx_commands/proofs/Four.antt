-- A list of four items.
use Rattle.std.proofs.Common.{◌≡◌, ◌<◌, ◌≤◌, List, [], ◌∷◌, length, slice_index_or, arith}

-- a list with four items is those at its first four indices
pub four_items : {X : Type 0} (xs : List X) (a b c d : X) → 4 ≤ length xs → length xs < 5 → a ≡ slice_index_or xs 0 a → b ≡ slice_index_or xs 1 b → c ≡ slice_index_or xs 2 c → d ≡ slice_index_or xs 3 d → xs ≡ a ∷ b ∷ c ∷ d ∷ []
four_items [] a b c d least most ea eb ec ed = absurd (grind arith)
four_items (w ∷ []) a b c d least most ea eb ec ed = absurd (grind arith)
four_items (w ∷ x ∷ []) a b c d least most ea eb ec ed = absurd (grind arith)
four_items (w ∷ x ∷ y ∷ []) a b c d least most ea eb ec ed = absurd (grind arith)
four_items (w ∷ x ∷ y ∷ z ∷ []) a b c d least most ea eb ec ed = cc
four_items (w ∷ x ∷ y ∷ z ∷ v ∷ vs) a b c d least most ea eb ec ed = absurd (grind arith)
