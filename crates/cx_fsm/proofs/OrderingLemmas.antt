-- Marks, places and numbers in order.
use Rattle.std.proofs.Common.{◌≡◌, ℕ, zero, suc, ◌+◌, ◌-◌, ◌<◌, ◌≤◌, ◌||◌, Bool, true, false, nat_eq, if◌then◌else◌, List, [], ◌∷◌, ◌++◌, filter, flat_map, get_or, refl, sym, ap, ap₂, ◌∙◌, arith, append-nil, append_assoc}
use Rattle.std.proofs.lemmas.Bool.{ne_eqb}
use Rattle.std.proofs.lemmas.List.Concat.{flat_map-append}
use Rattle.std.proofs.lemmas.List.Elements.{filter_agree}
use Rattle.cx_static.specs.Islands.{PlainLowereds}
use Rattle.cx_wiring.specs.Reached.{numbers_from, has_number, place_in, count, height, reached, order}
use Rattle.cx_fsm.specs.Rounds.{HasHeights}

-- numbers up to a count
numbers_more : (n all : ℕ) → n < all → numbers_from n (all - n) ≡ n ∷ numbers_from (n + 1) (all - (n + 1))
numbers_more n all h =
    let one : all - n ≡ suc (all - (n + 1)) = omega arith in
    let next : suc n ≡ n + 1 = omega arith in
    ap (numbers_from n) one ∙ ap (λ m. n ∷ numbers_from m (all - (n + 1))) next

pub numbers_none : (n all : ℕ) → all ≤ n → numbers_from n (all - n) ≡ []
numbers_none n all h = let none : all - n ≡ 0 = omega arith in ap (numbers_from n) none

numbers_split : (n a b : ℕ) → numbers_from n (a + b) ≡ numbers_from n a ++ numbers_from (n + a) b
numbers_split n zero b = let no : 0 + b ≡ b = omega arith in let same : n ≡ n + 0 = omega arith in ap₂ numbers_from same no
numbers_split n (suc a) b =
    let one : suc a + b ≡ suc (a + b) = omega arith in
    let same : suc n + a ≡ n + suc a = omega arith in
    ap (numbers_from n) one ∙ ap (λ l. n ∷ l) (numbers_split (suc n) a b) ∙ ap (λ m. n ∷ (numbers_from (suc n) a ++ numbers_from m b)) same

-- a number that is kept, or is not
pub kept_number : (P : ℕ → Bool) (n all : ℕ) (list now whole : List ℕ) → n < all → P n ≡ true → now ≡ list ++ n ∷ []
    → list ++ filter P (numbers_from n (all - n)) ≡ whole → now ++ filter P (numbers_from (n + 1) (all - (n + 1))) ≡ whole
kept_number P n all list now whole within keeps e h =
    let rest = filter P (numbers_from (n + 1) (all - (n + 1))) in
    ap (λ l. l ++ rest) e
    ∙ append_assoc list (n ∷ []) rest
    ∙ ap (λ b. list ++ (if b then n ∷ rest else rest)) (sym keeps)
    ∙ ap (λ ns. list ++ filter P ns) (sym (numbers_more n all within))
    ∙ h

pub left_number : (P : ℕ → Bool) (n all : ℕ) (list whole : List ℕ) → n < all → P n ≡ false
    → list ++ filter P (numbers_from n (all - n)) ≡ whole → list ++ filter P (numbers_from (n + 1) (all - (n + 1))) ≡ whole
left_number P n all list whole within leaves h =
    let rest = filter P (numbers_from (n + 1) (all - (n + 1))) in
    ap (λ b. list ++ (if b then n ∷ rest else rest)) (sym leaves)
    ∙ ap (λ ns. list ++ filter P ns) (sym (numbers_more n all within))
    ∙ h

-- what a number has
pub number_flat : (f : ℕ → List ℕ) (n all : ℕ) (list now whole : List ℕ) → n < all → now ≡ list ++ f n
    → list ++ flat_map f (numbers_from n (all - n)) ≡ whole → now ++ flat_map f (numbers_from (n + 1) (all - (n + 1))) ≡ whole
number_flat f n all list now whole within e h =
    ap (λ l. l ++ flat_map f (numbers_from (n + 1) (all - (n + 1)))) e
    ∙ append_assoc list (f n) (flat_map f (numbers_from (n + 1) (all - (n + 1))))
    ∙ ap (λ ns. list ++ flat_map f ns) (sym (numbers_more n all within))
    ∙ h

flat_agree : (f g : ℕ → List ℕ) → ((n : ℕ) → f n ≡ g n) → (ns : List ℕ) → flat_map f ns ≡ flat_map g ns
flat_agree f g h [] = refl
flat_agree f g h (n ∷ ns) = ap₂ (λ a b. a ++ b) (h n) (flat_agree f g h ns)

module _ (d : PlainLowereds) (levels : ℕ) (heights : List ℕ) (is : HasHeights d (count d) heights) (within : (k : ℕ) → height d k ≤ levels) where
  none_at : (h : ℕ) → levels < h → (ks : List ℕ) → filter (λ k. nat_eq (height d k) h) ks ≡ []
  none_at h above [] = refl
  none_at h above (k ∷ ks) =
      let low : height d k ≤ levels = within k in
      let no : height d k ≡ h → ⊥ = λ e. let m : height d k ≡ h = e in absurd (omega arith) in
      ap (λ b. if b then k ∷ filter (λ j. nat_eq (height d j) h) ks else filter (λ j. nat_eq (height d j) h) ks) (ne_eqb (height d k) h no) ∙ none_at h above ks

  none_above : (more n : ℕ) → levels < n → flat_map (λ h. filter (λ k. nat_eq (height d k) h) (reached d)) (numbers_from n more) ≡ []
  none_above zero n above = refl
  none_above (suc more) n above = ap₂ (λ a b. a ++ b) (none_at n above (reached d)) (none_above more (suc n) (omega arith))

  -- the components by height, up to the last height
  pub order_is : levels ≤ count d → flat_map (λ h. filter (λ k. nat_eq (get_or heights k 0) h) (reached d)) (numbers_from 0 (levels + 1)) ≡ order d
  order_is few =
      let at = λ (h : ℕ). filter (λ k. nat_eq (height d k) h) (reached d) in
      let all : suc (count d) ≡ (levels + 1) + (count d - levels) = omega arith in
      let behind : levels < 0 + (levels + 1) = omega arith in
      flat_agree _ at (λ h. filter_agree _ _ (λ k. ap (λ n. nat_eq n h) (is.right k)) (reached d)) (numbers_from 0 (levels + 1))
      ∙ sym (append-nil (flat_map at (numbers_from 0 (levels + 1))))
      ∙ ap (λ l. flat_map at (numbers_from 0 (levels + 1)) ++ l) (sym (none_above (count d - levels) (0 + (levels + 1)) behind))
      ∙ sym (flat_map-append at (numbers_from 0 (levels + 1)) (numbers_from (0 + (levels + 1)) (count d - levels)))
      ∙ ap (flat_map at) (sym (numbers_split 0 (levels + 1) (count d - levels)))
      ∙ ap (λ n. flat_map at (numbers_from 0 n)) (sym all)

-- where a number is among those of a list from a place on
abbrev pub place_from : ℕ → ℕ → List ℕ → ℕ
place_from k place ns = if has_number k ns then place + place_in k ns else 0

pub place_begins : (k : ℕ) (ns : List ℕ) → place_from k 0 ns ≡ place_in k ns
place_begins k [] = refl
place_begins k (n ∷ ns) = choice (nat_eq k n) (has_number k ns)
  where
    choice : (here later : Bool)
        → (if here || later then 0 + (if here then 0 else (if later then suc (place_in k ns) else 0)) else 0) ≡ (if here then 0 else (if later then suc (place_in k ns) else 0))
    choice true later = refl
    choice false true = omega arith
    choice false false = refl
