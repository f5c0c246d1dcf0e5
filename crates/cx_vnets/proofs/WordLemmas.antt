-- The words of an array by its declaration.
use Rattle.std.proofs.Common.{◌≡◌, ℕ, ◌<◌, Bool, true, false, List, [], ◌∷◌, nat_lt, refl, ap, if◌then◌else◌, arith}
use Rattle.std.proofs.lemmas.Bool.{lt-ltb}
use Rattle.cx_vtree.specs.Plain.{PlainDecl, WireOf, RegisterOf, ArrayOf}
use Rattle.cx_vtree.specs.InstanceTree.{same_name}
use Rattle.cx_vtree.specs.Meaning.{word_in}
use Rattle.cx_vtree.specs.Edges.{array_size}

-- the same words give the same
pub word_in_same : (ds : List PlainDecl) (words more : List ℕ → ℕ → ℕ) (name : List ℕ) (index : ℕ) → words name index ≡ more name index → word_in words ds name index ≡ word_in more ds name index
word_in_same [] words more name index e = refl
word_in_same (WireOf n w ∷ ds) words more name index e = word_in_same ds words more name index e
word_in_same (RegisterOf n w ∷ ds) words more name index e = word_in_same ds words more name index e
word_in_same (ArrayOf n w k ∷ ds) words more name index e = go (same_name n name) (word_in_same ds words more name index e)
  where
    go : (t : Bool) → word_in words ds name index ≡ word_in more ds name index
        → (if t then record { width = w; value = if nat_lt index k then words name index else 0 } else word_in words ds name index)
        ≡ (if t then record { width = w; value = if nat_lt index k then more name index else 0 } else word_in more ds name index)
    go true later = ap (λ v. record { width = w; value = if nat_lt index k then v else 0 }) e
    go false later = later

-- the width of a word is that of its array
pub word_in_width : (ds : List PlainDecl) (words more : List ℕ → ℕ → ℕ) (name : List ℕ) (index other : ℕ) → (word_in words ds name index).width ≡ (word_in more ds name other).width
word_in_width [] words more name index other = refl
word_in_width (WireOf n w ∷ ds) words more name index other = word_in_width ds words more name index other
word_in_width (RegisterOf n w ∷ ds) words more name index other = word_in_width ds words more name index other
word_in_width (ArrayOf n w k ∷ ds) words more name index other = go (same_name n name) (word_in_width ds words more name index other)
  where
    go : (t : Bool) → (word_in words ds name index).width ≡ (word_in more ds name other).width
        → (if t then record { width = w; value = if nat_lt index k then words name index else 0 } else word_in words ds name index).width
        ≡ (if t then record { width = w; value = if nat_lt other k then more name other else 0 } else word_in more ds name other).width
    go true later = refl
    go false later = later

-- a word within the array has its own value
pub word_in_value : (ds : List PlainDecl) (words : List ℕ → ℕ → ℕ) (name : List ℕ) (index : ℕ) → index < array_size ds name → (word_in words ds name index).value ≡ words name index
word_in_value [] words name index lt = absurd (let none : array_size [] name ≡ 0 = refl in omega arith)
word_in_value (WireOf n w ∷ ds) words name index lt = word_in_value ds words name index lt
word_in_value (RegisterOf n w ∷ ds) words name index lt = word_in_value ds words name index lt
word_in_value (ArrayOf n w k ∷ ds) words name index lt = go (same_name n name) (word_in_value ds words name index) lt
  where
    go : (t : Bool) → (index < array_size ds name → (word_in words ds name index).value ≡ words name index) → index < (if t then k else array_size ds name)
        → (if t then record { width = w; value = if nat_lt index k then words name index else 0 } else word_in words ds name index).value ≡ words name index
    go true later lt = ap (λ b. if b then words name index else 0) (lt-ltb index k lt)
    go false later lt = later lt
