-- Within as many steps as there are nodes every way ends that ends at all.
use Rattle.std.proofs.Common.{◌≡◌, ◌<◌, ◌≤◌, ℕ, zero, suc, nat_lt, Bool, true, List, [], ◌∷◌, length, ◌⊎◌, inl, inr, ⊎_elim, refl, sym, subst, arith, true≢false}
use Rattle.std.specs.List.{list_all}
use Rattle.std.proofs.lemmas.Bool.{ltb-true}
use Rattle.cx_text.specs.Members.{In}
use Rattle.cx_graphs.specs.Graphs.{Edges, targets_of}
use Rattle.cx_graphs.specs.Grounds.{IsGrounded, grounded, ends_before, is_grounded}
use Rattle.cx_graphs.proofs.Counting.{count, same_or_more, all_pass}
use Rattle.cx_text.proofs.BoolLaws.{and_left, and_second, and_true}
use Rattle.cx_text.proofs.NumberLaws.{lt_true}

each_of : (test : ℕ → Bool) (ms : List ℕ) → list_all test ms ≡ true → (m : ℕ) → In ms m → test m ≡ true
each_of test [] h m i = absurd i
each_of test (x ∷ ms) h m (inl e) = subst (λ y. test y ≡ true) e (and_left (test x) (list_all test ms) h)
each_of test (x ∷ ms) h m (inr i) = each_of test ms (and_second (test x) (list_all test ms) h) m i

all_of : (test : ℕ → Bool) (ms : List ℕ) → ((m : ℕ) → In ms m → test m ≡ true) → list_all test ms ≡ true
all_of test [] h = refl
all_of test (x ∷ ms) h = and_true (test x) (list_all test ms) (h x (inl refl)) (all_of test ms (λ m i. h m (inr i)))

module _ (g : Edges) where
  node_within : (k n : ℕ) → ends_before g (suc k) n ≡ true → n < length g
  node_within k n h = ltb-true n (length g) (and_left (nat_lt n (length g)) (list_all (ends_before g k) (targets_of g n)) h)

  targets_end : (k n : ℕ) → ends_before g (suc k) n ≡ true → (m : ℕ) → In (targets_of g n) m → ends_before g k m ≡ true
  targets_end k n h = each_of (ends_before g k) (targets_of g n) (and_second (nat_lt n (length g)) (list_all (ends_before g k) (targets_of g n)) h)

  node_ends : (k n : ℕ) → n < length g → ((m : ℕ) → In (targets_of g n) m → ends_before g k m ≡ true) → ends_before g (suc k) n ≡ true
  node_ends k n within h = and_true (nat_lt n (length g)) (list_all (ends_before g k) (targets_of g n)) (lt_true n (length g) within) (all_of (ends_before g k) (targets_of g n) h)

  ends_later : (k n : ℕ) → ends_before g k n ≡ true → ends_before g (suc k) n ≡ true
  ends_later zero n h = absurd (true≢false (sym h))
  ends_later (suc k) n h = node_ends (suc k) n (node_within k n h) (λ m i. ends_later k m (targets_end k n h m i))

  pub ends_are_grounded : (k n : ℕ) → ends_before g k n ≡ true → IsGrounded g n
  ends_are_grounded zero n h = absurd (true≢false (sym h))
  ends_are_grounded (suc k) n h = grounded (node_within k n h) (λ m i. ends_are_grounded k m (targets_end k n h m i))

  -- one more step finds no more
  abbrev IsStable : ℕ → Type 0
  IsStable k = (n : ℕ) → ends_before g (suc k) n ≡ true → ends_before g k n ≡ true

  stays_stable : (k : ℕ) → IsStable k → IsStable (suc k)
  stays_stable k h n e = node_ends k n (node_within (suc k) n e) (λ m i. h m (targets_end (suc k) n e m i))

  stable_or_many : (k : ℕ) → IsStable k ⊎ (k ≤ count (ends_before g k) (length g))
  stable_or_many zero = inr (omega arith)
  stable_or_many (suc k) =
      ⊎_elim
      (λ stable. inl (stays_stable k stable))
      (λ many. ⊎_elim
      (λ same. inl (stays_stable k (λ n e. same n (node_within k n e) e)))
      (λ more. inr (omega (arith, many, more)))
      (same_or_more (ends_before g k) (ends_before g (suc k)) (ends_later k) (length g)))
      (stable_or_many k)

  stable : IsStable (length g)
  stable n e = ⊎_elim (λ h. h n e) (λ many. all_pass (ends_before g (length g)) (length g) many n (node_within (length g) n e)) (stable_or_many (length g))

  pub grounded_end : (n : ℕ) → IsGrounded g n → is_grounded g n ≡ true
  grounded_end n (grounded within targets) = stable n (node_ends (length g) n within (λ m i. grounded_end m (targets m i)))
