-- Loaded words by the arrays that they are in.
use Rattle.std.proofs.Common.{◌≡◌, ℕ, zero, suc, ◌≤◌, Bool, true, false, List, [], ◌∷◌, Some, slice_get, slice_index, nat_lt, refl, ap, sym, ◌∙◌, if◌then◌else◌, arith}
use Rattle.std.proofs.lemmas.Bool.{le-ltb}
use Rattle.std.proofs.lemmas.Option.{same_Some}
use Rattle.cx_vtree.specs.Plain.{PlainDecl, WireOf, RegisterOf, ArrayOf, PlainExternal}
use Rattle.cx_vtree.specs.InstanceTree.{Placed, same_name}
use Rattle.cx_vtree.specs.Meaning.{word_in}
use Rattle.cx_vtree.specs.Edges.{array_size}
use Rattle.cx_vtree.specs.SimRun.{is_memory, loaded_word}

module _ (tree : List Placed) (i : ℕ) (name : List ℕ) (index : ℕ) where
  -- a word of an array that is no external memory is 0
  pub loaded_none : (es : List PlainExternal) (loaded : List (List ℕ)) → ((k : ℕ) (e : PlainExternal) → slice_get es k ≡ Some e → is_memory tree e i name ≡ false)
      → loaded_word tree es loaded i name index ≡ 0
  loaded_none [] loaded none = refl
  loaded_none (e ∷ es) [] none = refl
  loaded_none (e ∷ es) (words ∷ rest) none =
      ap (λ b. if b then slice_index words index else loaded_word tree es rest i name index) (none zero e refl)
      ∙ loaded_none es rest (λ k d at. none (suc k) d at)

  -- a word of an array that is one external memory, and no other, is that of its words
  pub loaded_here : (es : List PlainExternal) (loaded : List (List ℕ)) (k : ℕ) (e : PlainExternal) (words : List ℕ) → slice_get es k ≡ Some e → slice_get loaded k ≡ Some words
      → is_memory tree e i name ≡ true → ((j : ℕ) (d : PlainExternal) → slice_get es j ≡ Some d → is_memory tree d i name ≡ true → j ≡ k)
      → loaded_word tree es loaded i name index ≡ slice_index words index
  loaded_here [] loaded k e words at there is once = absurd (cc)
  loaded_here (d ∷ es) [] k e words at there is once = absurd (cc)
  loaded_here (d ∷ es) (ws ∷ rest) zero e words at there is once =
      let memory : d ≡ e = same_Some d e at in
      let first : ws ≡ words = same_Some ws words there in
      ap (λ b. if b then slice_index ws index else loaded_word tree es rest i name index) (ap (λ x. is_memory tree x i name) memory ∙ is)
      ∙ ap (λ l. slice_index l index) first
  loaded_here (d ∷ es) (ws ∷ rest) (suc k) e words at there is once =
      ap (λ b. if b then slice_index ws index else loaded_word tree es rest i name index) (not_first (is_memory tree d i name) refl)
      ∙ loaded_here es rest k e words at there is (λ j x here same. let next : suc j ≡ suc k = once (suc j) x here same in omega arith)
    where
      not_first : (t : Bool) → is_memory tree d i name ≡ t → t ≡ false
      not_first false is = refl
      not_first true is = absurd (let none : 0 ≡ suc k = once zero d refl is in omega arith)

-- words past the end of an array are the same whatever it holds
pub word_in_past : (ds : List PlainDecl) (words more : List ℕ → ℕ → ℕ) (name : List ℕ) (index : ℕ) → array_size ds name ≤ index → word_in words ds name index ≡ word_in more ds name index
word_in_past [] words more name index le = refl
word_in_past (WireOf n w ∷ ds) words more name index le = word_in_past ds words more name index le
word_in_past (RegisterOf n w ∷ ds) words more name index le = word_in_past ds words more name index le
word_in_past (ArrayOf n w k ∷ ds) words more name index le = go (same_name n name) (word_in_past ds words more name index) le
  where
    go : (t : Bool) → (array_size ds name ≤ index → word_in words ds name index ≡ word_in more ds name index) → (if t then k else array_size ds name) ≤ index
        → (if t then record { width = w; value = if nat_lt index k then words name index else 0 } else word_in words ds name index)
        ≡ (if t then record { width = w; value = if nat_lt index k then more name index else 0 } else word_in more ds name index)
    go true later le =
        ap (λ b. record { width = w; value = if b then words name index else 0 }) (le-ltb index k le)
        ∙ sym (ap (λ b. record { width = w; value = if b then more name index else 0 }) (le-ltb index k le))
    go false later le = later le
