-- A list of five items.
use Rattle.std.proofs.Common.{◌≡◌, ◌<◌, ◌≤◌, List, [], ◌∷◌, length, slice_index_or, arith}

-- a list with five items is those at its first five indices
pub five_items : {X : Type 0} (xs : List X) (a b c d e : X) → 5 ≤ length xs → length xs < 6 → a ≡ slice_index_or xs 0 a → b ≡ slice_index_or xs 1 b → c ≡ slice_index_or xs 2 c → d ≡ slice_index_or xs 3 d → e ≡ slice_index_or xs 4 e → xs ≡ a ∷ b ∷ c ∷ d ∷ e ∷ []
five_items [] a b c d e least most ea eb ec ed ee = absurd (grind arith)
five_items (u ∷ []) a b c d e least most ea eb ec ed ee = absurd (grind arith)
five_items (u ∷ v ∷ []) a b c d e least most ea eb ec ed ee = absurd (grind arith)
five_items (u ∷ v ∷ w ∷ []) a b c d e least most ea eb ec ed ee = absurd (grind arith)
five_items (u ∷ v ∷ w ∷ x ∷ []) a b c d e least most ea eb ec ed ee = absurd (grind arith)
five_items (u ∷ v ∷ w ∷ x ∷ y ∷ []) a b c d e least most ea eb ec ed ee = cc
five_items (u ∷ v ∷ w ∷ x ∷ y ∷ z ∷ zs) a b c d e least most ea eb ec ed ee = absurd (grind arith)
