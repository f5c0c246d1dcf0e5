-- Lists that loops go through.
use Rattle.std.proofs.Common.{◌≡◌, ℕ, suc, ◌+◌, ◌<◌, List, ◌∷◌, drop, get_or, length, ap, ◌∙◌, arith, drop-cons}

pub next_is : (xs : List ℕ) (i : ℕ) → i < length xs → drop i xs ≡ get_or xs i 0 ∷ drop (i + 1) xs
next_is xs i less = let one : suc i ≡ i + 1 = omega arith in drop-cons xs i 0 less ∙ ap (λ n. get_or xs i 0 ∷ drop n xs) one
