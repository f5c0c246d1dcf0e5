-- The last digit of a number, and what stands before it.
use Rattle.std.proofs.Common.{◌≡◌, ℕ, ◌+◌, ◌*◌, ◌/◌, ◌%◌, ◌<◌, ◌≤◌, zero, suc, ◌==◌, List, [], ◌∷◌, ◌++◌, map, refl, ap, sym, ◌∙◌, arith, append_assoc, ⊎_elim}
use Rattle.std.specs.Int.Digits.{digits_of}
use Rattle.std.proofs.Math.Nat.{div-eq_of_lt, mod-eq_of_lt}
use Rattle.std.proofs.lemmas.Bool.Decides.{eqb_tells}
use Rattle.std.proofs.lemmas.Int.Digits.{digits_of_step}
use Rattle.std.proofs.lemmas.List.{map-append}
use Rattle.cx_vtree.specs.Lines.{glyph, number_text}
use Rattle.cx_vtree.proofs.LinesLemmas.{positive_text}

-- a number below the base is one digit
pub one_digit : (base n : ℕ) → 2 ≤ base → n < base → number_text base n ≡ glyph n ∷ []
one_digit base zero low lt = refl
one_digit base (suc n) low lt =
    let positive : 0 < suc n = omega arith in
    positive_text base (suc n) positive
    ∙ ap (map glyph) (digits_of_step base (suc n) low positive)
    ∙ map-append glyph (digits_of base (suc n / base)) (suc n % base ∷ [])
    ∙ ap (λ q. map glyph (digits_of base q) ++ (glyph (suc n % base) ∷ [])) (div-eq_of_lt lt)
    ∙ ap (λ r. glyph r ∷ []) (mod-eq_of_lt lt)

-- a number from the base on is that of its other digits, and its last digit
pub last_digit : (base n : ℕ) → 2 ≤ base → base ≤ n → number_text base n ≡ number_text base (n / base) ++ (glyph (n % base) ∷ [])
last_digit base n low le =
    let positive : 0 < n = omega arith in
    let front : 0 < n / base = go (n / base) refl in
    positive_text base n positive
    ∙ ap (map glyph) (digits_of_step base n low positive)
    ∙ map-append glyph (digits_of base (n / base)) (n % base ∷ [])
    ∙ ap (λ t. t ++ (glyph (n % base) ∷ [])) (sym (positive_text base (n / base) front))
  where
    go : (q : ℕ) → n / base ≡ q → 0 < q
    go zero e = let none : base * (n / base) ≡ base * 0 = ap (λ q. base * q) e in absurd (omega arith)
    go (suc q) e = omega arith

-- its other digits and then its last digit are a number
pub digits_end : (base n : ℕ) (old mid new : List ℕ) → new ≡ mid ++ glyph (n % base) ∷ [] → mid ≡ old ++ number_text base (n / base) → 2 ≤ base → base ≤ n → new ≡ old ++ number_text base n
digits_end base n old mid new last front low le =
    last ∙ ap (λ t. t ++ (glyph (n % base) ∷ [])) front ∙ append_assoc old (number_text base (n / base)) (glyph (n % base) ∷ []) ∙ ap (λ t. old ++ t) (sym (last_digit base n low le))
