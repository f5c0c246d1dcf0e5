-- Free names: the first of a row of names that pass a test, one name after another.
use Rattle.std.proofs.Common.{◌≡◌, ℕ, zero, suc, ◌+◌, ◌<◌, ◌≤◌, Bool, true, false, not, List, [], ◌∷◌, ◌++◌, length, map, cond, refl, ap, ◌∙◌, arith, append-nil}
use Rattle.std.specs.Prelude.{filter, is_some, take}
use Rattle.std.specs.List.{range_with_len}
use Rattle.std.proofs.lemmas.List.FromFn.{filter_of_map_range_with_len_more}
use Rattle.cx_names_scopes.specs.declared.numbers.Numbers.{Numbers}
use Rattle.cx_names_scopes.specs.Numbered.{number_in}
use Rattle.cx_profiling.specs.FreeNames.{profile_name}
use Rattle.cx_profile.specs.Naming.{first_free}

-- one more behind a front of a list
take_full : {A : Type 0} (k : ℕ) (xs : List A) (ys : List A) → k ≤ length (take k xs) → take k (xs ++ ys) ≡ take k xs
take_full zero xs ys le = refl
take_full (suc k) [] ys le = absurd (omega arith)
take_full (suc k) (x ∷ xs) ys le = ap (λ l. x ∷ l) (take_full k xs ys (omega arith))

take_short : {A : Type 0} (k : ℕ) (xs : List A) (y : A) → length (take k xs) < k → take k (xs ++ y ∷ []) ≡ take k xs ++ y ∷ []
take_short zero xs y less = absurd (omega arith)
take_short (suc k) [] y less = none k
  where
    none : (k : ℕ) → y ∷ take k [] ≡ y ∷ []
    none zero = refl
    none (suc k) = refl
take_short (suc k) (x ∷ xs) y less = ap (λ l. x ∷ l) (take_short k xs y (omega arith))

module _ (taken : Numbers) (k : ℕ) where
  abbrev is_free : List ℕ → Bool
  is_free name = not (is_some (number_in taken name))

  abbrev passed : ℕ → List (List ℕ)
  passed n = filter is_free (map profile_name (range_with_len 0 n))

  more : (n : ℕ) → passed (n + 1) ≡ passed n ++ cond (is_free (profile_name n)) (profile_name n ∷ []) []
  more n = filter_of_map_range_with_len_more is_free profile_name 0 n n (omega arith)

  -- a name that is taken
  pub free_skips : (n : ℕ) → is_some (number_in taken (profile_name n)) ≡ true → first_free taken k (n + 1) ≡ first_free taken k n
  free_skips n e =
      ap (take k) (more n) ∙ ap (λ b. take k (passed n ++ cond (not b) (profile_name n ∷ []) [])) e ∙ ap (take k) (append-nil (passed n))

  -- a name that is free, where there are fewer so far
  pub free_takes : (n : ℕ) → is_some (number_in taken (profile_name n)) ≡ false → length (first_free taken k n) < k → first_free taken k (n + 1) ≡ first_free taken k n ++ profile_name n ∷ []
  free_takes n e less =
      ap (take k) (more n) ∙ ap (λ b. take k (passed n ++ cond (not b) (profile_name n ∷ []) [])) e ∙ take_short k (passed n) (profile_name n) less

  -- there are as many as are asked for
  pub free_stays : (n : ℕ) → k ≤ length (first_free taken k n) → first_free taken k (n + 1) ≡ first_free taken k n
  free_stays n le = ap (take k) (more n) ∙ take_full k (passed n) (cond (is_free (profile_name n)) (profile_name n ∷ []) []) le
