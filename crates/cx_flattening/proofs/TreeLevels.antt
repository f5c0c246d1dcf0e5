-- No chain of components is longer than there are components, so a tree with levels enough is the component with all below it.
use Rattle.std.proofs.Common.{◌≡◌, ℕ, zero, suc, ◌+◌, ◌<◌, ◌≤◌, inl, inr, ◌⊎◌, List, [], ◌∷◌, length, refl, ap, subst, arith}
use Rattle.std.specs.List.{range_with_len}
use Rattle.std.proofs.lemmas.List.FromFn.{length-range_with_len}
use Rattle.cx_meaning.specs.Designs.{OfComponent, PlainCell, PlainDesign, component_at}
use Rattle.cx_meaning.specs.Instances.{Node, tree_within}
use Rattle.cx_text.specs.Members.{In}
use Rattle.cx_rules.specs.Wellformed.{LeadsTo, by_cell, by_way_of, IsDesign, IsKind}
use Rattle.cx_rules.proofs.Finite.{Distinct, distinct_few}
use Rattle.cx_meaning.proofs.InstancesLemmas.{cells_same}

pub same_or_more : (a k : ℕ) → a ≤ k → (a ≡ k) ⊎ (a + 1 ≤ k)
same_or_more zero zero le = inl refl
same_or_more zero (suc k) le = inr (omega arith)
same_or_more (suc a) zero le = absurd (omega arith)
same_or_more (suc a) (suc k) le = next (same_or_more a k (omega arith))
  where
    next : (a ≡ k) ⊎ (a + 1 ≤ k) → (suc a ≡ suc k) ⊎ (suc a + 1 ≤ suc k)
    next (inl e) = inl (ap suc e)
    next (inr l) = inr (omega arith)

-- a number is in the row of all below a bound
pub in_row : (a n k : ℕ) → a ≤ k → k < a + n → In (range_with_len a n) k
in_row a zero k from to = absurd (omega arith)
in_row a (suc n) k from to = by (same_or_more a k from) (λ l. in_row (a + 1) n k l (omega arith))
  where
    by : (a ≡ k) ⊎ (a + 1 ≤ k) → (a + 1 ≤ k → In (range_with_len (a + 1) n) k) → In (range_with_len a (suc n)) k
    by (inl e) more = inl e
    by (inr l) more = inr (more l)

-- numbers below a bound that are all different are no more than the bound
pub few_below : (ks : List ℕ) (n : ℕ) → Distinct ks → ((k : ℕ) → In ks k → k < n) → length ks ≤ n
few_below ks n apart below =
    subst (λ m. length ks ≤ m) (length-range_with_len 0 n) (distinct_few ks (range_with_len 0 n) apart (λ k i. in_row 0 n k (omega arith) (let l : k < n = below k i in omega arith)))

module _ (d : PlainDesign) (rules : IsDesign d) where
  -- the component of a cell is there
  pub child_there : (k j : ℕ) (cell : PlainCell) → k < length d.components → In (component_at d k).cells cell → cell.kind ≡ OfComponent j → j < length d.components
  child_there k j cell there here e = subst (IsKind d) e ((rules.components k there).cells cell here).kind

  -- a way down to a component: all different, all there, and each leads to it
  pub record IsWay (path : List ℕ) (k : ℕ) : Type 0 where
    pub apart : Distinct (k ∷ path)
    pub there : (m : ℕ) → In (k ∷ path) m → m < length d.components
    pub leads : (m : ℕ) → In path m → LeadsTo d m k

  pub no_way : (k : ℕ) → k < length d.components → IsWay [] k
  no_way k there = record { apart = (λ i. absurd i, tt); there = at; leads = λ m i. absurd i }
    where
      at : (m : ℕ) → In (k ∷ []) m → m < length d.components
      at m (inl e) = subst (λ n. n < length d.components) e there
      at m (inr i) = absurd i

  pub further : (path : List ℕ) (k j : ℕ) (cell : PlainCell) → IsWay path k → In (component_at d k).cells cell → cell.kind ≡ OfComponent j → IsWay (k ∷ path) j
  further path k j cell way here e = record { apart = (fresh, way.apart); there = at; leads = down }
    where
      step : LeadsTo d k j
      step = by_cell j cell here e

      down : (m : ℕ) → In (k ∷ path) m → LeadsTo d m j
      down m (inl same) = subst (λ x. LeadsTo d x j) same step
      down m (inr i) = by_way_of k (way.leads m i) step

      fresh : In (k ∷ path) j → ⊥
      fresh i = rules.not_recursive j (down j i)

      at : (m : ℕ) → In (j ∷ k ∷ path) m → m < length d.components
      at m (inl same) = subst (λ x. x < length d.components) same (child_there k j cell (way.there k (inl refl)) here e)
      at m (inr i) = way.there m i

  pub way_is_short : (path : List ℕ) (k : ℕ) → IsWay path k → length path < length d.components
  way_is_short path k way = few_below (k ∷ path) (length d.components) way.apart way.there

  -- with levels enough a tree is always the same
  pub levels : (n m : ℕ) (path : List ℕ) (k : ℕ) → IsWay path k → length d.components ≤ n + length path → n ≤ m → tree_within d n k ≡ tree_within d m k
  levels zero m path k way many le = absurd (let short : length path < length d.components = way_is_short path k way in omega arith)
  levels (suc n) zero path k way many le = absurd (omega arith)
  levels (suc n) (suc m) path k way many le =
      ap (Node (component_at d k)) (cells_same (tree_within d n) (tree_within d m) (component_at d k).cells
      (λ cell j here e. levels n m (k ∷ path) j (further path k j cell way here e) (omega arith) (omega arith)))
