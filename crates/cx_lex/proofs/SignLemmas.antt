-- Signs and their bytes.
use Rattle.std.proofs.Common.{◌≡◌, ℕ, ◌≤◌, ◌==◌, if◌then◌else◌, Option, Some, None, List, [], ◌∷◌, length, ◌⊎◌, inl, inr, ⊎_elim, refl, sym, ◌∙◌, ap, arith}
use Rattle.std.proofs.lemmas.Bool.{eqb-true}
use Rattle.std.specs.List.{AllByRecursion}
use Rattle.cx_ast.specs.declared.signs.Sign.{Sign}
use Rattle.cx_ast.specs.declared.signs.Sign.TheVariants as signs
use Rattle.cx_lex.specs.Lex.{sign_bytes}
use Rattle.cx_lex.specs.Reading.{look_up, short_signs, short_sign, long_sign}
use Rattle.cx_lex.proofs.TestLemmas.{chosen}

-- a sign has one byte or two, and is found by them
abbrev pub IsShort : Sign → Type 0
IsShort s = (a : ℕ) × (sign_bytes s ≡ a ∷ []) × (short_sign a ≡ Some s)

abbrev pub IsLong : Sign → Type 0
IsLong s = (a : ℕ) × (b : ℕ) × (sign_bytes s ≡ a ∷ b ∷ []) × (long_sign a b ≡ Some s)

pub short_or_long : (s : Sign) → IsShort s ⊎ IsLong s
short_or_long signs.OpenBrace = inl (123, refl, refl)
short_or_long signs.CloseBrace = inl (125, refl, refl)
short_or_long signs.OpenParen = inl (40, refl, refl)
short_or_long signs.CloseParen = inl (41, refl, refl)
short_or_long signs.OpenBracket = inl (91, refl, refl)
short_or_long signs.CloseBracket = inl (93, refl, refl)
short_or_long signs.Less = inl (60, refl, refl)
short_or_long signs.Greater = inl (62, refl, refl)
short_or_long signs.Semicolon = inl (59, refl, refl)
short_or_long signs.Colon = inl (58, refl, refl)
short_or_long signs.Comma = inl (44, refl, refl)
short_or_long signs.Dot = inl (46, refl, refl)
short_or_long signs.Equal = inl (61, refl, refl)
short_or_long signs.Question = inl (63, refl, refl)
short_or_long signs.Not = inl (33, refl, refl)
short_or_long signs.And = inl (38, refl, refl)
short_or_long signs.Or = inl (124, refl, refl)
short_or_long signs.At = inl (64, refl, refl)
short_or_long signs.Percent = inl (37, refl, refl)
short_or_long signs.EqualEqual = inr (61, 61, refl, refl)
short_or_long signs.NotEqual = inr (33, 61, refl, refl)
short_or_long signs.LessEqual = inr (60, 61, refl, refl)
short_or_long signs.GreaterEqual = inr (62, 61, refl, refl)
short_or_long signs.Arrow = inr (45, 62, refl, refl)

-- what a table of bytes finds has these bytes
looked_up : (entries : List (ℕ × Sign)) → AllByRecursion (λ e. sign_bytes e.1 ≡ e.0 ∷ []) entries → (key : ℕ) (s : Sign) → look_up ◌==◌ entries key ≡ Some s → sign_bytes s ≡ key ∷ []
looked_up [] h key s e = absurd (cc)
looked_up (entry ∷ entries) h key s e = ⊎_elim
    (λ found. let same : entry.1 ≡ s = let f = found.1 in cc in ap sign_bytes (sym same) ∙ h.0 ∙ ap (λ b. b ∷ []) (sym (eqb-true key entry.0 found.0)))
    (λ later. looked_up entries h.1 key s later.1)
    (chosen (key == entry.0) (Some entry.1) (look_up ◌==◌ entries key) (Some s) e)

pub short_sign-bytes : (a : ℕ) (s : Sign) → short_sign a ≡ Some s → sign_bytes s ≡ a ∷ []
short_sign-bytes = looked_up short_signs (refl, (refl, (refl, (refl, (refl, (refl, (refl, (refl, (refl, (refl, (refl, (refl, (refl, (refl, (refl, (refl, (refl, (refl, (refl, tt)))))))))))))))))))

-- a sign of two bytes is found by them alone
module _ (s : Sign) (a b : ℕ) where
  one_long : (first second : ℕ) (found : Sign) (others : Option Sign) → sign_bytes found ≡ first ∷ second ∷ [] → b ≡ second → (others ≡ Some s → sign_bytes s ≡ a ∷ b ∷ []) → (if a == first then Some found else others) ≡ Some s → sign_bytes s ≡ a ∷ b ∷ []
  one_long first second found others bytes eb go_on e = ⊎_elim
      (λ here. let same : found ≡ s = let f = here.1 in cc in ap sign_bytes (sym same) ∙ bytes ∙ ap (λ x. x ∷ second ∷ []) (sym (eqb-true a first here.0)) ∙ ap (λ y. a ∷ y ∷ []) (sym eb))
      (λ later. go_on later.1)
      (chosen (a == first) (Some found) others (Some s) e)

  nothing : ◌≡◌ {A = Option Sign} None (Some s) → sign_bytes s ≡ a ∷ b ∷ []
  nothing e = absurd (cc)

  pub long_sign-bytes : long_sign a b ≡ Some s → sign_bytes s ≡ a ∷ b ∷ []
  long_sign-bytes e = ⊎_elim
      (λ equal. let eb = eqb-true b 61 equal.0 in
      one_long 61 61 signs.EqualEqual _ refl eb (one_long 33 61 signs.NotEqual _ refl eb (one_long 60 61 signs.LessEqual _ refl eb (one_long 62 61 signs.GreaterEqual _ refl eb nothing))) equal.1)
      (λ other. ⊎_elim
      (λ greater. one_long 45 62 signs.Arrow _ refl (eqb-true b 62 greater.0) nothing greater.1)
      (λ none. nothing none.1)
      (chosen (b == 62) (if a == 45 then Some signs.Arrow else None) None (Some s) other.1))
      (chosen (b == 61) (if a == 61 then Some signs.EqualEqual else if a == 33 then Some signs.NotEqual else if a == 60 then Some signs.LessEqual else if a == 62 then Some signs.GreaterEqual else None) (if b == 62 then (if a == 45 then Some signs.Arrow else None) else None) (Some s) e)

-- no sign has more than two bytes
pub length-sign_bytes-le : (s : Sign) → length (sign_bytes s) ≤ 2
length-sign_bytes-le s = ⊎_elim (λ h. let n = ap length h.1 in omega arith) (λ h. let n = ap length h.2 in omega arith) (short_or_long s)
