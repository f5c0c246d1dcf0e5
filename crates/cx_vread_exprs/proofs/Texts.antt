-- Fixed texts.
use Rattle.std.proofs.Common.{◌≡◌, ℕ, ◌==◌, Bool, true, false, ◌&&◌, List, [], ◌∷◌, length, take, drop, Option, Some, None, refl, ◌∙◌, ap, sym, if◌then◌else◌}
use Rattle.std.specs.Cmp.Lexicographic.{pointwise}
use Rattle.cx_vread_exprs.specs.Places.{Place, after, after_text, at_bytes, moved}

none_by : (b : Bool) (rest : Bool) (r : Option (List ℕ)) → (b && rest) ≡ false → (rest ≡ false → r ≡ None) → (if b then r else None) ≡ None
none_by true rest r h f = f h
none_by false rest r h f = refl

text_none : (want bytes : List ℕ) → pointwise ◌==◌ (take (length want) bytes) want ≡ false → after_text want bytes ≡ None
text_none [] bytes h = absurd (cc)
text_none (w ∷ ws) [] h = refl
text_none (w ∷ ws) (b ∷ bs) h = none_by (b == w) (pointwise ◌==◌ (take (length ws) bs) ws) (after_text ws bs) h (text_none ws bs)

some_by : (b : Bool) (rest : Bool) (r o : Option (List ℕ)) → (b && rest) ≡ true → (rest ≡ true → r ≡ o) → (if b then r else None) ≡ o
some_by true rest r o h f = f h
some_by false rest r o h f = absurd (cc)

text_some : (want bytes : List ℕ) → pointwise ◌==◌ (take (length want) bytes) want ≡ true → after_text want bytes ≡ Some (drop (length want) bytes)
text_some [] bytes h = refl
text_some (w ∷ ws) [] h = absurd (cc)
text_some (w ∷ ws) (b ∷ bs) h = some_by (b == w) (pointwise ◌==◌ (take (length ws) bs) ws) (after_text ws bs) (Some (drop (length ws) bs)) h (text_some ws bs)

-- no such text stands here
pub after_none : (p : Place) (want : List ℕ) → pointwise ◌==◌ (take (length want) p.rest) want ≡ false → after want p ≡ None
after_none p want h = ap (at_bytes p) (text_none want p.rest h)

-- it does, and the rest stands behind it
pub after_some : (p : Place) (want rest : List ℕ) → pointwise ◌==◌ (take (length want) p.rest) want ≡ true → rest ≡ drop (length want) p.rest → after want p ≡ Some (moved p rest)
after_some p want rest h e = ap (at_bytes p) (text_some want p.rest h) ∙ ap (λ r. Some (moved p r)) (sym e)
