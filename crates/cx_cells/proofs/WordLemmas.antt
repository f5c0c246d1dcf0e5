-- Words that are written one by one.
use Rattle.std.proofs.Common.{◌≡◌, ℕ, zero, suc, ◌+◌, ◌<◌, ◌≤◌, List, [], ◌∷◌, length, take, set, get_or, refl, sym, ap, ◌∙◌, arith}

next_word : (xs ys : List ℕ) (n v : ℕ) → n < length xs → length xs ≡ length ys → take n xs ≡ take n ys → v ≡ get_or ys n 0 → take (suc n) (set xs n v) ≡ take (suc n) ys
next_word [] ys n v lt same e f = absurd (omega arith)
next_word (x ∷ xs) [] n v lt same e f = absurd (let g : suc (length xs) ≡ 0 = same in omega arith)
next_word (x ∷ xs) (y ∷ ys) zero v lt same e f = ap (λ w. w ∷ []) f
next_word (x ∷ xs) (y ∷ ys) (suc n) v lt same e f =
    let first : x ≡ y = (let g : x ∷ take n xs ≡ y ∷ take n ys = e in cc) in
    let rest : take n xs ≡ take n ys = (let g : x ∷ take n xs ≡ y ∷ take n ys = e in cc) in
    let sized : length xs ≡ length ys = (let g : suc (length xs) ≡ suc (length ys) = same in omega arith) in
    let within : n < length xs = (let h : suc n < suc (length xs) = lt in omega arith) in
    ap (λ w. w ∷ take (suc n) (set xs n v)) first ∙ ap (λ ws. y ∷ ws) (next_word xs ys n v within sized rest f)

pub one_more : (xs ys : List ℕ) (n v : ℕ) → n < length xs → length xs ≡ length ys → take n xs ≡ take n ys → v ≡ get_or ys n 0 → take (n + 1) (set xs n v) ≡ take (n + 1) ys
one_more xs ys n v lt same e f =
    let s : n + 1 ≡ suc n = omega arith in
    ap (λ k. take k (set xs n v)) s ∙ next_word xs ys n v lt same e f ∙ ap (λ k. take k ys) (sym s)

pub all_same : (xs ys : List ℕ) (n : ℕ) → length xs ≤ n → length xs ≡ length ys → take n xs ≡ take n ys → xs ≡ ys
all_same [] [] n le same e = refl
all_same [] (y ∷ ys) n le same e = absurd (let g : 0 ≡ suc (length ys) = same in omega arith)
all_same (x ∷ xs) [] n le same e = absurd (let g : suc (length xs) ≡ 0 = same in omega arith)
all_same (x ∷ xs) (y ∷ ys) zero le same e = absurd (omega arith)
all_same (x ∷ xs) (y ∷ ys) (suc n) le same e =
    let first : x ≡ y = (let g : x ∷ take n xs ≡ y ∷ take n ys = e in cc) in
    let rest : take n xs ≡ take n ys = (let g : x ∷ take n xs ≡ y ∷ take n ys = e in cc) in
    let sized : length xs ≡ length ys = (let g : suc (length xs) ≡ suc (length ys) = same in omega arith) in
    ap (λ w. w ∷ xs) first ∙ ap (λ ws. y ∷ ws) (all_same xs ys n (let h : suc (length xs) ≤ suc n = le in omega arith) sized rest)
