-- Lists that are made piece by piece.
use Rattle.std.proofs.Common.{◌≡◌, ℕ, ◌+◌, ◌≤◌, List, [], ◌∷◌, ◌++◌, map, refl, sym, ap, ◌∙◌, arith}
use Rattle.std.proofs.Math.Numerals.{add-one}
use Rattle.std.proofs.lemmas.List.{append_assoc, append-nil, map-append}
use Rattle.cx_trial.specs.TrialParts.{up_to}

-- the list for no number, and for one more
pub up_to-none : {A : Type 0} (f : ℕ → List A) → up_to f 0 ≡ []
unfolding up_to
up_to-none f = refl

up_to-more : {A : Type 0} (f : ℕ → List A) (n : ℕ) → up_to f (n + 1) ≡ up_to f n ++ f n
unfolding up_to
up_to-more f n = ap (up_to f) (add-one n)

-- a turn more of a loop that appends
pub turned : {A : Type 0} (f : ℕ → List A) (front before after : List A) (n : ℕ) → before ≡ front ++ up_to f n → after ≡ before ++ f n → after ≡ front ++ up_to f (n + 1)
turned f front before after n made more = more ∙ ap (λ xs. xs ++ f n) made ∙ append_assoc front (up_to f n) (f n) ∙ ap (λ xs. front ++ xs) (sym (up_to-more f n))

-- before the first turn
pub begun : {A : Type 0} (f : ℕ → List A) (front made : List A) → made ≡ front → made ≡ front ++ up_to f 0
begun f front made is = is ∙ sym (ap (λ xs. front ++ xs) (up_to-none f) ∙ append-nil front)

-- one item more
pub appended : {A B : Type 0} (g : A → B) (before after : List A) (x : A) (y : B) → after ≡ before ++ x ∷ [] → g x ≡ y → map g after ≡ map g before ++ y ∷ []
appended g before after x y more is = ap (map g) more ∙ map-append g before (x ∷ []) ∙ ap (λ z. map g before ++ z ∷ []) is

-- the same for one item
pub pushed : {A B : Type 0} (g : A → B) (f : ℕ → List B) (front : List B) (before after : List A) (x : A) (n : ℕ) → map g before ≡ front ++ up_to f n → after ≡ before ++ x ∷ []
    → g x ∷ [] ≡ f n → map g after ≡ front ++ up_to f (n + 1)
pushed g f front before after x n made more is =
    turned f front (map g before) (map g after) n made (ap (map g) more ∙ map-append g before (x ∷ []) ∙ ap (λ xs. map g before ++ xs) is)

-- after its last turn
pub ended : {A : Type 0} (f : ℕ → List A) (front made : List A) (n m : ℕ) → made ≡ front ++ up_to f n → m ≤ n → n ≤ m → made ≡ front ++ up_to f m
ended f front made n m e past within = e ∙ ap (λ k. front ++ up_to f k) (let same : n ≡ m = omega (arith, past, within) in same)

-- two items behind a list, and four
pub two_more : {A : Type 0} (old first one two : List A) (a b : A) → first ≡ old → one ≡ first ++ a ∷ [] → two ≡ one ++ b ∷ [] → two ≡ old ++ a ∷ b ∷ []
two_more old first one two a b e f g = g ∙ ap (λ xs. xs ++ b ∷ []) (f ∙ ap (λ xs. xs ++ a ∷ []) e) ∙ append_assoc old (a ∷ []) (b ∷ [])

pub four_more : {A : Type 0} (old one two three four : List A) (a b c d : A) → one ≡ old ++ a ∷ [] → two ≡ one ++ b ∷ [] → three ≡ two ++ c ∷ [] → four ≡ three ++ d ∷ []
    → four ≡ old ++ a ∷ b ∷ c ∷ d ∷ []
four_more old one two three four a b c d e f g h =
    h ∙ ap (λ xs. xs ++ d ∷ []) (g ∙ ap (λ xs. xs ++ c ∷ []) (two_more old old one two a b refl e f) ∙ append_assoc old (a ∷ b ∷ []) (c ∷ []))
    ∙ append_assoc old (a ∷ b ∷ c ∷ []) (d ∷ [])

-- two behind some more
pub two_behind : {A : Type 0} (old first two three : List A) (more : List A) (a b : A) → first ≡ old ++ more → two ≡ first ++ a ∷ [] → three ≡ two ++ b ∷ [] → three ≡ old ++ (more ++ a ∷ b ∷ [])
two_behind old first two three more a b e f g = two_more (old ++ more) first two three a b e f g ∙ append_assoc old more (a ∷ b ∷ [])
