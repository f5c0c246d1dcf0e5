-- A list that is written over, element by element.
use Rattle.std.proofs.Common.{◌≡◌, ℕ, zero, suc, ◌+◌, ◌<◌, ◌≤◌, List, [], ◌∷◌, All, ◌^◌, length, take, set, get_or, refl, sym, ap, ◌∙◌, subst, arith}
use Rattle.std.proofs.lemmas.List.Elements.{All-get_or, All-more}
use Rattle.std.proofs.lemmas.List.{take_all}
use Rattle.std.proofs.Math.Nat.{pow-le-pow_right}
use Rattle.cx_bits.specs.BitVector.{BitVector, Fits}
use Rattle.cx_vsim.specs.WordNumbers.{AreNarrow, numbers_of, words_of_width}

next_one : {X : Type 0} (d : X) (xs ys : List X) (n : ℕ) (v : X) → n < length xs → length xs ≡ length ys → take n xs ≡ take n ys → v ≡ get_or ys n d → take (suc n) (set xs n v) ≡ take (suc n) ys
next_one d [] ys n v lt same e f = absurd (omega arith)
next_one d (x ∷ xs) [] n v lt same e f = absurd (let g : suc (length xs) ≡ 0 = same in omega arith)
next_one d (x ∷ xs) (y ∷ ys) zero v lt same e f = ap (λ w. w ∷ []) f
next_one d (x ∷ xs) (y ∷ ys) (suc n) v lt same e f =
    let first : x ≡ y = (let g : x ∷ take n xs ≡ y ∷ take n ys = e in cc) in
    let rest : take n xs ≡ take n ys = (let g : x ∷ take n xs ≡ y ∷ take n ys = e in cc) in
    let sized : length xs ≡ length ys = (let g : suc (length xs) ≡ suc (length ys) = same in omega arith) in
    let within : n < length xs = (let h : suc n < suc (length xs) = lt in omega arith) in
    ap (λ w. w ∷ take (suc n) (set xs n v)) first ∙ ap (λ ws. y ∷ ws) (next_one d xs ys n v within sized rest f)

pub one_more : {X : Type 0} (d : X) (xs ys : List X) (n : ℕ) (v : X) → n < length xs → length xs ≡ length ys → take n xs ≡ take n ys → v ≡ get_or ys n d → take (n + 1) (set xs n v) ≡ take (n + 1) ys
one_more d xs ys n v lt same e f =
    let s : n + 1 ≡ suc n = omega arith in
    ap (λ k. take k (set xs n v)) s ∙ next_one d xs ys n v lt same e f ∙ ap (λ k. take k ys) (sym s)

pub all_same : {X : Type 0} (xs ys : List X) (n : ℕ) → length xs ≤ n → length xs ≡ length ys → take n xs ≡ take n ys → xs ≡ ys
all_same [] [] n le same e = refl
all_same [] (y ∷ ys) n le same e = absurd (let g : 0 ≡ suc (length ys) = same in omega arith)
all_same (x ∷ xs) [] n le same e = absurd (let g : suc (length xs) ≡ 0 = same in omega arith)
all_same (x ∷ xs) (y ∷ ys) zero le same e = absurd (omega arith)
all_same (x ∷ xs) (y ∷ ys) (suc n) le same e =
    let first : x ≡ y = (let g : x ∷ take n xs ≡ y ∷ take n ys = e in cc) in
    let rest : take n xs ≡ take n ys = (let g : x ∷ take n xs ≡ y ∷ take n ys = e in cc) in
    let sized : length xs ≡ length ys = (let g : suc (length xs) ≡ suc (length ys) = same in omega arith) in
    ap (λ w. w ∷ xs) first ∙ ap (λ ws. y ∷ ws) (all_same xs ys n (let h : suc (length xs) ≤ suc n = le in omega arith) sized rest)

pub numbers_length : (bs : List BitVector) → length (numbers_of bs) ≡ length bs
numbers_length [] = refl
numbers_length (b ∷ bs) = ap suc (numbers_length bs)

pub number_at : (bs : List BitVector) (n v : ℕ) (b : BitVector) → n < length bs → v ≡ b.value → b ≡ get_or bs n b → v ≡ get_or (numbers_of bs) n 0
number_at [] n v b lt e f = absurd (omega arith)
number_at (x ∷ bs) zero v b lt e f = e ∙ ap (λ y. y.value) f
number_at (x ∷ bs) (suc n) v b lt e f = number_at bs n v b (let h : suc n < suc (length bs) = lt in omega arith) e f

-- the word of a width at an index
pub width_get : (w : ℕ) (ns : List ℕ) (n : ℕ) (b : BitVector) → n < length ns → b ≡ record { width = w; value = get_or ns n 0 } → b ≡ get_or (words_of_width w ns) n (record { width = 0; value = 0 })
width_get w [] n b lt e = absurd (omega arith)
width_get w (x ∷ ns) zero b lt e = e
width_get w (x ∷ ns) (suc n) b lt e = width_get w ns n b (let h : suc n < suc (length ns) = lt in omega arith) e

pub widths_length : (w : ℕ) (ns : List ℕ) → length (words_of_width w ns) ≡ length ns
widths_length w [] = refl
widths_length w (n ∷ ns) = ap suc (widths_length w ns)

-- a value that fits, of 64 bits at most, is below two to 64
fit_below : (b : BitVector) → Fits b → b.width ≤ 64 → b.value < 2 ^ 64
fit_below b fits narrow =
    let two : 0 < 2 = omega arith in
    let grows : 2 ^ b.width ≤ 2 ^ 64 = pow-le-pow_right two narrow in
    let below : b.value < 2 ^ b.width = fits.in_range in
    omega (arith, below, grows)

pub below_at : (bs : List BitVector) (n v : ℕ) (b : BitVector) → n < length bs → v ≡ b.value → b ≡ get_or bs n b → Fits b → AreNarrow bs → v < 2 ^ 64
below_at bs n v b lt e f fits all =
    let narrow : (get_or bs n b).width ≤ 64 = All-get_or (λ (x : BitVector). x.width ≤ 64) bs n b lt all in
    subst (λ x. x < 2 ^ 64) (sym e) (fit_below b fits (subst (λ (x : BitVector). x.width ≤ 64) (sym f) narrow))

-- one more of the words that were read fits
pub fits_more : (bs : List BitVector) (n : ℕ) (b : BitVector) → n < length bs → b ≡ get_or bs n b → Fits b → All Fits (take n bs) → All Fits (take (n + 1) bs)
fits_more bs n b lt f fits all = All-more Fits bs n b lt all (subst Fits f fits)

pub all_fit : (bs : List BitVector) (n : ℕ) → length bs ≤ n → All Fits (take n bs) → All Fits bs
all_fit bs n le all = subst (All Fits) (take_all n bs le) all
