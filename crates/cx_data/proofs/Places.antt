-- The place of a memory among others in the order of their names.
use Rattle.std.proofs.Common.{◌≡◌, ◌∙◌, ℕ, zero, suc, ◌+◌, ◌<◌, ◌≤◌, Bool, true, false, not, cond, List, [], ◌∷◌, length, get_or, refl, ap, sym, subst, arith, Bor}
use Rattle.std.specs.Cmp.{IsStrictWeakOrder}
use Rattle.std.specs.Cmp.Lexicographic.{slice_cmp, nat_list_cmp_total}
use Rattle.std.specs.List.{insert, position_or_len}
use Rattle.std.specs.List.Sorted.{IsPartitionPoint, IsPartitionedBy, IsSortedBy}
use Rattle.std.specs.Ordering.{nat_cmp, is_lt}
use Rattle.std.proofs.lemmas.List.Sorted.{ranks_by, sorted_far}
use Rattle.std.proofs.lemmas.List.Sums.{position_or_len_is}
use Rattle.cx_text.specs.declared.loading.LoadedMemory.{LoadedMemory}
use Rattle.cx_data.specs.Orders.{AreByName}

no_pass : (b : Bool) → not b ≡ true → b ≡ false
no_pass true h = absurd (cc)
no_pass false h = refl

pass : (b : Bool) → not b ≡ false → b ≡ true
pass true h = refl
pass false h = absurd (cc)

-- where a binary search ends is the first that passes
pub position_or_len-point : {X : Type 0} (p : X → Bool) (xs : List X) (i : ℕ) → i ≤ length xs
    → IsPartitionPoint (λ y. not (p y) ≡ true) (λ y. not (p y) ≡ false) xs i → i ≡ position_or_len p xs
position_or_len-point p [] i small point = let none : i ≡ 0 = omega arith in none
position_or_len-point p (x ∷ xs) i small point =
    sym (position_or_len_is p (x ∷ xs) i x small
    (λ k lt. no_pass (p (get_or (x ∷ xs) k x)) (point.0 k x (omega arith) lt)) (λ lt. pass (p (get_or (x ∷ xs) i x)) (point.1 i x (omega arith) lt)))

-- a name is greater than those in front of the place where it goes
pub parted_by_name : (name : List ℕ) (xs : List (Bor LoadedMemory)) → AreByName xs → IsPartitionedBy (λ b. not (is_lt (slice_cmp nat_cmp name b.now.row.name))) xs
parted_by_name name xs up i j d le within h =
    let names : IsStrictWeakOrder (λ (x y : List ℕ). is_lt (slice_cmp nat_cmp x y)) = ranks_by nat_list_cmp_total (λ (x : List ℕ). x) in
    let far = sorted_far _ (ranks_by nat_list_cmp_total (λ (b : Bor LoadedMemory). b.now.row.name)) xs up i j d le within in
    ap not (names.chain name (get_or xs j d).now.row.name (get_or xs i d).now.row.name (no_pass _ h) far)

module _ {X : Type 0} (lt : X → X → Bool) (o : IsStrictWeakOrder lt) where
  -- the first of these is not less
  abbrev First : X → List X → Type 0
  First x [] = Unit {0}
  First x (y ∷ ys) = lt y x ≡ false

  first_at : (x : X) (ys : List X) (d : X) → First x ys → 0 < length ys → lt (get_or ys 0 d) x ≡ false
  first_at x [] d f small = absurd (omega (arith, small))
  first_at x (y ∷ ys) d f small = f

  sorted_cons : (x : X) (ys : List X) → First x ys → IsSortedBy lt ys → IsSortedBy lt (x ∷ ys)
  sorted_cons x ys f up zero d low small = first_at x ys d f (omega (arith, small))
  sorted_cons x ys f up (suc k) d low small =
      let next : suc k + 1 ≡ suc (k + 1) = omega arith in
      ap (λ n. lt (get_or (x ∷ ys) n d) (get_or ys k d)) next ∙ up k d (omega arith) (omega (arith, small))

  sorted_tail : (x : X) (ys : List X) → IsSortedBy lt (x ∷ ys) → IsSortedBy lt ys
  sorted_tail x ys up k d low small =
      let next : suc k + 1 ≡ suc (k + 1) = omega arith in
      ap (λ n. lt (get_or (x ∷ ys) n d) (get_or ys k d)) (sym next) ∙ up (suc k) d (omega arith) (omega (arith, small))

  sorted_first : (x : X) (ys : List X) → IsSortedBy lt (x ∷ ys) → First x ys
  sorted_first x [] up = tt
  sorted_first x (y ∷ ys) up = up 0 x (omega arith) (omega arith)

  first_insert : (x m : X) (ys : List X) (i : ℕ) → lt m x ≡ false → First x ys → First x (insert ys i m)
  first_insert x m ys zero other f = other
  first_insert x m [] (suc i) other f = other
  first_insert x m (y ∷ ys) (suc i) other f = f

  -- one more, before the first that is greater
  pub sorted_insert : (m : X) (xs : List X) → IsSortedBy lt xs → IsSortedBy lt (insert xs (position_or_len (lt m) xs) m)
  sorted_insert m [] up = sorted_cons m [] tt up
  sorted_insert m (x ∷ xs) up = go (lt m x) refl (sorted_insert m xs (sorted_tail x xs up))
    where
      go : (b : Bool) → lt m x ≡ b → IsSortedBy lt (insert xs (position_or_len (lt m) xs) m)
          → IsSortedBy lt (insert (x ∷ xs) (cond (not b) (1 + position_or_len (lt m) xs) 0) m)
      go true e behind = sorted_cons m (x ∷ xs) (o.one_way m x e) up
      go false e behind =
          let later : suc (position_or_len (lt m) xs) ≡ 1 + position_or_len (lt m) xs = omega arith in
          subst (λ n. IsSortedBy lt (insert (x ∷ xs) n m)) later
          (sorted_cons x (insert xs (position_or_len (lt m) xs) m) (first_insert x m xs (position_or_len (lt m) xs) e (sorted_first x xs up)) behind)

-- one more memory in its place
pub by_name_more : (m : Bor LoadedMemory) (xs more : List (Bor LoadedMemory)) (place : ℕ)
    → place ≡ position_or_len (λ other. is_lt (slice_cmp nat_cmp m.now.row.name other.now.row.name)) xs → more ≡ insert xs place m → AreByName xs → AreByName more
by_name_more m xs more place there is up =
    subst AreByName (sym (is ∙ ap (λ n. insert xs n m) there)) (sorted_insert _ (ranks_by nat_list_cmp_total (λ (b : Bor LoadedMemory). b.now.row.name)) m xs up)
