-- A table of zeros: a row for each instance, with a zero for each group.
use Rattle.std.proofs.Common.{◌≡◌, ℕ, zero, suc, ◌<◌, ◌≤◌, List, [], ◌∷◌, length, map, replicate, get_or, Some, ⊎_elim, refl, ap, ◌∙◌, arith}
use Rattle.std.specs.List.{slice_get}
use Rattle.std.proofs.lemmas.Bool.{cases_lt}
use Rattle.std.proofs.lemmas.List.{length-replicate}
use Rattle.cx_meaning.specs.Designs.{PlainDesign}
use Rattle.cx_meaning.specs.Instances.{Path, part_of, paths_of, instance_at, tree_of}
use Rattle.cx_state.specs.Tables.{IsNumber}
use Rattle.cx_text.proofs.ListLaws.{there_below}
use Rattle.cx_interp.specs.Counts.{HasRows, IsZero}

-- the row of instance n
pub record IsZeroRow (d : PlainDesign) (n : ℕ) (row : List ℕ) : Type 0 where
  pub zeros : (g : ℕ) → get_or row g 0 ≡ 0
  pub size : (path : Path) → IsNumber d n path → length row ≡ length (part_of (instance_at (tree_of d) path)).groups

no_more : (count g : ℕ) → let none : ℕ = 0 in get_or (replicate count none) g none ≡ none
no_more zero g = refl
no_more (suc count) zero = refl
no_more (suc count) (suc g) = no_more count g

pub zero_row : (d : PlainDesign) (n count : ℕ) (row : List ℕ) → row ≡ replicate count 0
    → ((path : Path) → IsNumber d n path → count ≡ length (part_of (instance_at (tree_of d) path)).groups) → IsZeroRow d n row
zero_row d n count row e counts = record {
  zeros = λ g. ap (λ (r : List ℕ). get_or r g 0) e ∙ no_more count g;
  size = λ path number. ap (λ (r : List ℕ). length r) e ∙ length-replicate count 0 ∙ counts path number;
}

abbrev pub AreZeroRows : {A : Type 0} → (A → List ℕ) → PlainDesign → List A → Type 0
AreZeroRows {A} items d rows = (n : ℕ) (row : A) → slice_get rows n ≡ Some row → IsZeroRow d n (items row)

module _ {A : Type 0} (items : A → List ℕ) where
  row_is : (rows : List A) (n : ℕ) → n < length rows → (row : A) × (slice_get rows n ≡ Some row) × (get_or (map items rows) n [] ≡ items row)
  row_is [] n lt = absurd (omega (arith, lt))
  row_is (x ∷ xs) zero lt = (x, refl, refl)
  row_is (x ∷ xs) (suc n) lt = row_is xs n (let h : suc n < suc (length xs) = lt in omega (arith, h))

  none_there : (rows : List A) (n : ℕ) → length rows ≤ n → get_or (map items rows) n [] ≡ []
  none_there [] n le = refl
  none_there (x ∷ xs) zero le = absurd (let h : suc (length xs) ≤ 0 = le in omega (arith, h))
  none_there (x ∷ xs) (suc n) le = none_there xs n (let h : suc (length xs) ≤ suc n = le in omega (arith, h))

  pub zeros_have_rows : (d : PlainDesign) (rows : List A) → length (paths_of (tree_of d)) ≤ length rows → AreZeroRows items d rows → HasRows d (map items rows)
  zeros_have_rows d rows enough zeros n path number =
      let lt : n < length (paths_of (tree_of d)) = there_below (paths_of (tree_of d)) n path number in
      let r = row_is rows n (omega (arith, lt, enough)) in
      ap (λ (xs : List ℕ). length xs) r.2 ∙ (zeros n r.0 r.1).size path number

  pub zeros_are_zero : (d : PlainDesign) (rows : List A) → AreZeroRows items d rows → IsZero (map items rows)
  zeros_are_zero d rows zeros n g = ⊎_elim inside outside (cases_lt n (length rows))
    where
      inside : n < length rows → get_or (get_or (map items rows) n []) g 0 ≡ 0
      inside lt = let r = row_is rows n lt in ap (λ (xs : List ℕ). get_or xs g 0) r.2 ∙ (zeros n r.0 r.1).zeros g

      outside : length rows ≤ n → get_or (get_or (map items rows) n []) g 0 ≡ 0
      outside le = ap (λ (xs : List ℕ). get_or xs g 0) (none_there rows n le)
