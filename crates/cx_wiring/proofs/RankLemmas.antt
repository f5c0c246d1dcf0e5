-- The order of ranks, and that drivers in the order of targets have those of one target side by side.
use Rattle.std.proofs.Common.{◌≡◌, ℕ, zero, suc, ◌<◌, ◌≤◌, ◌⊎◌, inl, inr, Bool, true, false, not, if◌then◌else◌, List, [], ◌∷◌, refl, sym, ap, ◌∙◌, arith, Less, Equal, Greater, Ordering}
use Rattle.std.specs.Ordering.{is_lt, nat_cmp, ordering_then}
use Rattle.std.specs.Cmp.{nat_cmp_is}
use Rattle.cx_net.specs.Nets.{PlainNetDriver}
use Rattle.cx_wiring.specs.Trees.{Rank, rank_of, ranks_before, goes_before, placed_among, by_target}
use Rattle.cx_text.proofs.NumberLaws.{true_false_also}

-- the first stands nowhere before the second
abbrev pub NotBefore : Rank → Rank → Type 0
NotBefore a b = (b.kind < a.kind) ⊎ ((b.kind ≡ a.kind) × ((b.number < a.number) ⊎ ((b.number ≡ a.number) × (b.port ≤ a.port))))

less_is : (m n : ℕ) → m < n → nat_cmp m n ≡ Less
less_is m n h = sym (nat_cmp_is m n Less h)

equal_is : (m n : ℕ) → m ≡ n → nat_cmp m n ≡ Equal
equal_is m n h = sym (nat_cmp_is m n Equal h)

greater_is : (m n : ℕ) → n < m → nat_cmp m n ≡ Greater
greater_is m n h = sym (nat_cmp_is m n Greater h)

abbrev rest_before : Rank → Rank → Ordering
rest_before a b = ordering_then (nat_cmp a.number b.number) (nat_cmp a.port b.port)

three : (m n : ℕ) → (m < n) ⊎ ((m ≡ n) ⊎ (n < m))
three zero zero = inr (inl refl)
three zero (suc n) = inl (omega arith)
three (suc m) zero = inr (inr (omega arith))
three (suc m) (suc n) = up (three m n)
  where
    up : (m < n) ⊎ ((m ≡ n) ⊎ (n < m)) → (suc m < suc n) ⊎ ((suc m ≡ suc n) ⊎ (suc n < suc m))
    up (inl h) = inl (omega arith)
    up (inr (inl h)) = inr (inl (ap suc h))
    up (inr (inr h)) = inr (inr (omega arith))

-- from the test
pub not_before : (a b : Rank) → ranks_before a b ≡ false → NotBefore a b
not_before a b e = by_kind (three a.kind b.kind)
  where
    by_port : a.kind ≡ b.kind → a.number ≡ b.number → (a.port < b.port) ⊎ ((a.port ≡ b.port) ⊎ (b.port < a.port)) → b.port ≤ a.port
    by_port k n (inl h) = true_false_also (sym (ap (λ o. is_lt (ordering_then o (rest_before a b))) (equal_is a.kind b.kind k) ∙ ap (λ o. is_lt (ordering_then o (nat_cmp a.port b.port))) (equal_is a.number b.number n) ∙ ap is_lt (less_is a.port b.port h)) ∙ e)
    by_port k n (inr (inl h)) = omega arith
    by_port k n (inr (inr h)) = omega arith

    by_number : a.kind ≡ b.kind → (a.number < b.number) ⊎ ((a.number ≡ b.number) ⊎ (b.number < a.number)) → (b.number < a.number) ⊎ ((b.number ≡ a.number) × (b.port ≤ a.port))
    by_number k (inl h) = true_false_also (sym (ap (λ o. is_lt (ordering_then o (rest_before a b))) (equal_is a.kind b.kind k) ∙ ap (λ o. is_lt (ordering_then o (nat_cmp a.port b.port))) (less_is a.number b.number h)) ∙ e)
    by_number k (inr (inl h)) = inr (sym h, by_port k h (three a.port b.port))
    by_number k (inr (inr h)) = inl h

    by_kind : (a.kind < b.kind) ⊎ ((a.kind ≡ b.kind) ⊎ (b.kind < a.kind)) → NotBefore a b
    by_kind (inl h) = true_false_also (sym (ap (λ o. is_lt (ordering_then o (rest_before a b))) (less_is a.kind b.kind h)) ∙ e)
    by_kind (inr (inl h)) = inr (sym h, by_number h (three a.number b.number))
    by_kind (inr (inr h)) = inl h

-- what stands before another is not behind it
pub before_is : (a b : Rank) → ranks_before a b ≡ true → NotBefore b a
before_is a b e = by_kind (three a.kind b.kind)
  where
    wrong : {A : Type 0} → false ≡ true → A
    wrong f = absurd cc

    by_port : a.kind ≡ b.kind → a.number ≡ b.number → (a.port < b.port) ⊎ ((a.port ≡ b.port) ⊎ (b.port < a.port)) → a.port ≤ b.port
    by_port k n (inl h) = omega arith
    by_port k n (inr (inl h)) = omega arith
    by_port k n (inr (inr h)) = wrong (sym (ap (λ o. is_lt (ordering_then o (rest_before a b))) (equal_is a.kind b.kind k) ∙ ap (λ o. is_lt (ordering_then o (nat_cmp a.port b.port))) (equal_is a.number b.number n) ∙ ap is_lt (greater_is a.port b.port h)) ∙ e)

    by_number : a.kind ≡ b.kind → (a.number < b.number) ⊎ ((a.number ≡ b.number) ⊎ (b.number < a.number)) → (a.number < b.number) ⊎ ((a.number ≡ b.number) × (a.port ≤ b.port))
    by_number k (inl h) = inl h
    by_number k (inr (inl h)) = inr (h, by_port k h (three a.port b.port))
    by_number k (inr (inr h)) = wrong (sym (ap (λ o. is_lt (ordering_then o (rest_before a b))) (equal_is a.kind b.kind k) ∙ ap (λ o. is_lt (ordering_then o (nat_cmp a.port b.port))) (greater_is a.number b.number h)) ∙ e)

    by_kind : (a.kind < b.kind) ⊎ ((a.kind ≡ b.kind) ⊎ (b.kind < a.kind)) → NotBefore b a
    by_kind (inl h) = inl h
    by_kind (inr (inl h)) = inr (h, by_number h (three a.number b.number))
    by_kind (inr (inr h)) = wrong (sym (ap (λ o. is_lt (ordering_then o (rest_before a b))) (greater_is a.kind b.kind h)) ∙ e)

pub behind_both : (a b c : Rank) → NotBefore a b → NotBefore b c → NotBefore a c
behind_both a b c (inl h) (inl k) = inl (omega arith)
behind_both a b c (inl h) (inr k) = let e : c.kind ≡ b.kind = k.0 in inl (omega arith)
behind_both a b c (inr h) (inl k) = let e : b.kind ≡ a.kind = h.0 in inl (omega arith)
behind_both a b c (inr h) (inr k) = inr (k.0 ∙ h.0, numbers h.1 k.1)
  where
    numbers : (b.number < a.number) ⊎ ((b.number ≡ a.number) × (b.port ≤ a.port)) → (c.number < b.number) ⊎ ((c.number ≡ b.number) × (c.port ≤ b.port)) → (c.number < a.number) ⊎ ((c.number ≡ a.number) × (c.port ≤ a.port))
    numbers (inl x) (inl y) = inl (omega arith)
    numbers (inl x) (inr y) = let e : c.number ≡ b.number = y.0 in inl (omega arith)
    numbers (inr x) (inl y) = let e : b.number ≡ a.number = x.0 in inl (omega arith)
    numbers (inr x) (inr y) = let e : c.port ≤ b.port = y.1 in let f : b.port ≤ a.port = x.1 in inr (y.0 ∙ x.0, omega arith)

-- of two neither of which stands before the true_false_also the ranks are one
pub one_rank : (a b : Rank) → NotBefore a b → NotBefore b a → (a.kind ≡ b.kind) × (a.number ≡ b.number) × (a.port ≡ b.port)
one_rank a b (inl h) (inl k) = absurd (omega arith)
one_rank a b (inl h) (inr k) = let e : a.kind ≡ b.kind = k.0 in absurd (omega arith)
one_rank a b (inr h) (inl k) = let e : b.kind ≡ a.kind = h.0 in absurd (omega arith)
one_rank a b (inr h) (inr k) = (k.0, numbers h.1 k.1, ports h.1 k.1)
  where
    numbers : (b.number < a.number) ⊎ ((b.number ≡ a.number) × (b.port ≤ a.port)) → (a.number < b.number) ⊎ ((a.number ≡ b.number) × (a.port ≤ b.port)) → a.number ≡ b.number
    numbers (inl x) (inl y) = absurd (omega arith)
    numbers (inl x) (inr y) = y.0
    numbers (inr x) y = sym x.0

    ports : (b.number < a.number) ⊎ ((b.number ≡ a.number) × (b.port ≤ a.port)) → (a.number < b.number) ⊎ ((a.number ≡ b.number) × (a.port ≤ b.port)) → a.port ≡ b.port
    ports (inl x) (inl y) = absurd (omega arith)
    ports (inl x) (inr y) = let e : a.number ≡ b.number = y.0 in absurd (omega arith)
    ports (inr x) (inl y) = let e : b.number ≡ a.number = x.0 in absurd (omega arith)
    ports (inr x) (inr y) = let f : b.port ≤ a.port = x.1 in let g : a.port ≤ b.port = y.1 in omega arith

-- SORTED: no driver stands before one that it follows
abbrev pub NoneBefore : Rank → List PlainNetDriver → Type 0
NoneBefore r [] = Unit {0}
NoneBefore r (e ∷ es) = NotBefore (rank_of e.target) r × NoneBefore r es

abbrev pub IsSorted : List PlainNetDriver → Type 0
IsSorted [] = Unit {0}
IsSorted (d ∷ ds) = NoneBefore (rank_of d.target) ds × IsSorted ds

none_further : (r q : Rank) (ds : List PlainNetDriver) → NotBefore r q → NoneBefore r ds → NoneBefore q ds
none_further r q [] h n = tt
none_further r q (e ∷ es) h n = (behind_both (rank_of e.target) r q n.0 h, none_further r q es h n.1)

none_placed : (r : Rank) (d : PlainNetDriver) (ds : List PlainNetDriver) → NotBefore (rank_of d.target) r → NoneBefore r ds → NoneBefore r (placed_among d ds)
none_placed r d [] h n = (h, tt)
none_placed r d (e ∷ es) h n = choice (goes_before e d) (none_placed r d es h n.1)
  where
    choice : (t : Bool) → NoneBefore r (placed_among d es) → NoneBefore r (if not t then d ∷ e ∷ es else e ∷ placed_among d es)
    choice true k = (n.0, k)
    choice false k = (h, n)

placed_sorted : (d : PlainNetDriver) (ds : List PlainNetDriver) → IsSorted ds → IsSorted (placed_among d ds)
placed_sorted d [] s = (tt, tt)
placed_sorted d (e ∷ es) s = choice (goes_before e d) refl (placed_sorted d es s.1)
  where
    choice : (t : Bool) → goes_before e d ≡ t → IsSorted (placed_among d es) → IsSorted (if not t then d ∷ e ∷ es else e ∷ placed_among d es)
    choice true is k = (none_placed (rank_of e.target) d es (before_is (rank_of e.target) (rank_of d.target) is) s.0, k)
    choice false is k =
        let h = not_before (rank_of e.target) (rank_of d.target) is in
        ((h, none_further (rank_of e.target) (rank_of d.target) es h s.0), s)

pub by_target_sorted : (ds : List PlainNetDriver) → IsSorted (by_target ds)
by_target_sorted [] = tt
by_target_sorted (d ∷ ds) = placed_sorted d (by_target ds) (by_target_sorted ds)
