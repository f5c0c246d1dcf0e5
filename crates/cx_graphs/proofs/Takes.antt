-- The first of a list, marks, and tables.
use Rattle.std.proofs.Common.{◌≡◌, ◌+◌, ◌<◌, ◌≤◌, ℕ, zero, suc, Bool, true, false, List, [], ◌∷◌, Some, length, take, get_or, slice_get, slice_set, replicate, ◌⊎◌, inl, inr, ⊎_elim, refl, sym, ap, subst, arith, add-one}
use Rattle.cx_text.specs.Members.{In}
use Rattle.cx_graphs.specs.Graphs.{Marked, unmarked}
use Rattle.cx_graphs.specs.GroundSearch.{AllMarked}

pub none_taken : (xs : List ℕ) (m : ℕ) → In (take 0 xs) m → ⊥
none_taken [] m i = i
none_taken (x ∷ xs) m i = i

pub in_take : (xs : List ℕ) (k m : ℕ) → In (take k xs) m → In xs m
in_take [] zero m i = i
in_take [] (suc k) m i = i
in_take (x ∷ xs) zero m i = absurd i
in_take (x ∷ xs) (suc k) m (inl e) = inl e
in_take (x ∷ xs) (suc k) m (inr i) = inr (in_take xs k m i)

pub in_take_all : (xs : List ℕ) (k m : ℕ) → length xs ≤ k → In xs m → In (take k xs) m
in_take_all [] k m few i = absurd i
in_take_all (x ∷ xs) zero m few i = absurd (omega (arith, few))
in_take_all (x ∷ xs) (suc k) m few (inl e) = inl e
in_take_all (x ∷ xs) (suc k) m few (inr i) = inr (in_take_all xs k m (omega (arith, few)) i)

in_take_next : (xs : List ℕ) (k m : ℕ) → In (take (suc k) xs) m → In (take k xs) m ⊎ (get_or xs k 0 ≡ m)
in_take_next [] k m i = absurd i
in_take_next (x ∷ xs) zero m (inl e) = inr e
in_take_next (x ∷ xs) zero m (inr i) = absurd (none_taken xs m i)
in_take_next (x ∷ xs) (suc k) m (inl e) = inl (inl e)
in_take_next (x ∷ xs) (suc k) m (inr i) = ⊎_elim (λ j. inl (inr j)) (λ e. inr e) (in_take_next xs k m i)

pub in_at : (xs : List ℕ) (k : ℕ) → k < length xs → In xs (get_or xs k 0)
in_at [] k h = absurd (omega (arith, h))
in_at (x ∷ xs) zero h = inl refl
in_at (x ∷ xs) (suc k) h = inr (in_at xs k (omega (arith, h)))

pub one_more_marked : (marks : List Bool) (xs : List ℕ) (k : ℕ) → AllMarked marks (take k xs) → Marked marks (get_or xs k 0) → AllMarked marks (take (k + 1) xs)
one_more_marked marks xs k before here m i =
    ⊎_elim (before m) (λ e. subst (Marked marks) e here) (in_take_next xs k m (subst (λ j. In (take j xs) m) (add-one k) i))

-- marks
pub marked_here : (ms : List Bool) (i : ℕ) → i < length ms → Marked (slice_set ms i true) i
marked_here [] i h = absurd (omega (arith, h))
marked_here (m ∷ ms) zero h = refl
marked_here (m ∷ ms) (suc i) h = marked_here ms i (omega (arith, h))

pub marked_still : (ms : List Bool) (i n : ℕ) → Marked ms n → Marked (slice_set ms i true) n
marked_still [] i n h = h
marked_still (m ∷ ms) zero zero h = refl
marked_still (m ∷ ms) zero (suc n) h = h
marked_still (m ∷ ms) (suc i) zero h = h
marked_still (m ∷ ms) (suc i) (suc n) h = marked_still ms i n h

pub marked_from : (ms : List Bool) (i n : ℕ) → Marked (slice_set ms i true) n → Marked ms n ⊎ (i ≡ n)
marked_from [] i n h = inl h
marked_from (m ∷ ms) zero zero h = inr refl
marked_from (m ∷ ms) zero (suc n) h = inl h
marked_from (m ∷ ms) (suc i) zero h = inl h
marked_from (m ∷ ms) (suc i) (suc n) h = ⊎_elim (λ k. inl k) (λ e. inr (ap suc e)) (marked_from ms i n h)

pub no_mark : (count n : ℕ) → Marked (replicate count false) n → ⊥
no_mark zero n h = cc
no_mark (suc count) zero h = cc
no_mark (suc count) (suc n) h = no_mark count n h

pub fewer : (ms : List Bool) (i : ℕ) → slice_get ms i ≡ Some false → unmarked ms ≡ 1 + unmarked (slice_set ms i true)
fewer [] i h = absurd (cc)
fewer (true ∷ ms) zero h = absurd (cc)
fewer (false ∷ ms) zero h = let u = unmarked ms in omega arith
fewer (m ∷ ms) (suc i) h = count m (fewer ms i h)
  where
    count : (b : Bool) → unmarked ms ≡ 1 + unmarked (slice_set ms i true) → unmarked (b ∷ ms) ≡ 1 + unmarked (b ∷ slice_set ms i true)
    count true e = omega (arith, e)
    count false e = omega (arith, e)

-- tables of numbers
pub set_or_same : (ks : List ℕ) (i k n : ℕ) → (get_or (slice_set ks i k) n 0 ≡ get_or ks n 0) ⊎ ((i ≡ n) × (get_or (slice_set ks i k) n 0 ≡ k))
set_or_same [] i k n = inl refl
set_or_same (x ∷ ks) zero k zero = inr (refl, refl)
set_or_same (x ∷ ks) zero k (suc n) = inl refl
set_or_same (x ∷ ks) (suc i) k zero = inl refl
set_or_same (x ∷ ks) (suc i) k (suc n) = ⊎_elim (λ e. inl e) (λ h. inr (ap suc h.0, h.1)) (set_or_same ks i k n)

pub zero_at : (count n : ℕ) → get_or (replicate {A = ℕ} count 0) n 0 ≡ 0
zero_at zero n = refl
zero_at (suc count) zero = refl
zero_at (suc count) (suc n) = zero_at count n

-- marks and edges under other names
pub marked_as : (seen marks : List Bool) (read edges : List ℕ) (from known next : ℕ) → seen ≡ marks → read ≡ edges → from ≡ known
    → (AllMarked seen (take from read) → AllMarked seen (take next read)) → AllMarked marks (take known edges) → AllMarked marks (take next edges)
marked_as seen marks read edges from known next same_marks same_edges same_known step before =
    subst (λ m. AllMarked m (take next edges)) same_marks
    (subst (λ l. AllMarked seen (take next l)) same_edges
    (step
    (subst (λ k. AllMarked seen (take k read)) (sym same_known)
    (subst (λ l. AllMarked seen (take known l)) (sym same_edges)
    (subst (λ m. AllMarked m (take known edges)) (sym same_marks) before)))))
