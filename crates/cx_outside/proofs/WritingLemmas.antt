-- What follows from specs/Writing.antt.
use Rattle.std.proofs.Common.{◌≡◌, ℕ, ◌+◌, List, ◌++◌, Option, Some, None, length, take, refl, ap, ◌∙◌, sym, append_assoc}
use Rattle.std.specs.List.{between}
use Rattle.std.proofs.Math.Seq.{take-add}
use Rattle.std.proofs.lemmas.List.{take_rest}
use Rattle.cx_outside.specs.Writing.{grown}

-- a front, and then a front of what is left, are one front
pub grown-take : (before : Option (List ℕ)) (bytes : List ℕ) (d n : ℕ) → grown (grown before (take d bytes)) (take n (between d (length bytes) bytes)) ≡ grown before (take (d + n) bytes)
grown-take None bytes d n = refl
grown-take (Some written) bytes d n =
    ap Some (append_assoc written (take d bytes) _ ∙ ap (λ all. written ++ all) (ap (λ rest. take d bytes ++ take n rest) (take_rest bytes d) ∙ sym (take-add d n bytes)))

-- a piece that was taken after a front of the bytes makes a longer front
pub grown-take_more : (before now after : Option (List ℕ)) (bytes : List ℕ) (d n : ℕ) → now ≡ grown before (take d bytes) → after ≡ grown now (take n (between d (length bytes) bytes)) → after ≡ grown before (take (d + n) bytes)
grown-take_more before now after bytes d n front piece = piece ∙ (ap (λ written. grown written (take n (between d (length bytes) bytes))) front ∙ grown-take before bytes d n)
