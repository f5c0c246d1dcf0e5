-- The flat components of static children, made in an order in which those of a component's cells come before it.
use Rattle.std.proofs.Common.{◌≡◌, ℕ, zero, suc, ◌<◌, Bool, true, false, inl, inr, ◌⊎◌, List, [], ◌∷◌, Some, length, take, slice_get, refl, sym, ap, ◌∙◌, subst, arith}
use Rattle.std.specs.Prelude.{is_some}
use Rattle.cx_meaning.specs.Designs.{PlainComponent, PlainDesign, component_at}
use Rattle.cx_meaning.specs.Instances.{Node, cells_for, tree_within}
use Rattle.cx_text.specs.Members.{In}
use Rattle.cx_meaning.proofs.DesignsLemmas.{same_part}
use Rattle.cx_rules.specs.Ports.{component_of}
use Rattle.cx_rules.specs.Wellformed.{LeadsTo, by_cell, by_way_of}
use Rattle.cx_design_sizes.specs.Orders.{IsChildrenFirst}
use Rattle.cx_flattening.specs.Whole.{is_static}
use Rattle.cx_flattening.specs.Flattened.{Kids, kid_if, flat_component, flat_part}
use Rattle.cx_flattening.specs.FlatDesign.{flat_of}
use Rattle.cx_flat.specs.Tables.{kids_of}
use Rattle.cx_design_copies.specs.Reaching.{IsMadeOf}
use Rattle.cx_design_copies.proofs.EdgeLemmas.{HasCell}
use Rattle.cx_flat.specs.Flats.{kid_of}
use Rattle.cx_rules.specs.Counts.{is_one_of}
use Rattle.std.specs.Prelude.{◌||◌, nat_eq}
use Rattle.std.proofs.lemmas.Bool.{eqb-true, eq-eqb}
use Rattle.std.proofs.lemmas.Option.{slice_get_within}
use Rattle.cx_flat.proofs.FlatLemmas.{kids_for, kids_below, kids_by}
use Rattle.cx_meaning.proofs.InstancesLemmas.{cells_same}

pub in_slice : (xs : List ℕ) (n : ℕ) → In xs n → (i : ℕ) × (slice_get xs i ≡ Some n)
in_slice [] n i = absurd i
in_slice (x ∷ xs) n (inl e) = (0, ap (λ y. Some y) e)
in_slice (x ∷ xs) n (inr i) = let r = in_slice xs n i in (suc r.0, r.1)

pub in_take : (k : ℕ) (xs : List ℕ) (n : ℕ) → In (take k xs) n → In xs n
in_take zero xs n i = absurd i
in_take (suc k) [] n i = absurd i
in_take (suc k) (x ∷ xs) n (inl e) = inl e
in_take (suc k) (x ∷ xs) n (inr i) = inr (in_take k xs n i)

-- one more is taken
pub in_taken : (xs : List ℕ) (i x n : ℕ) → slice_get xs i ≡ Some x → In (take (suc i) xs) n → (x ≡ n) ⊎ In (take i xs) n
in_taken [] i x n at j = absurd (cc)
in_taken (y ∷ ys) zero x n at (inl e) = inl (let same : y ≡ x = cc in sym same ∙ e)
in_taken (y ∷ ys) zero x n at (inr j) = absurd j
in_taken (y ∷ ys) (suc i) x n at (inl e) = inr (inl e)
in_taken (y ∷ ys) (suc i) x n at (inr j) = by (in_taken ys i x n at j)
  where
    by : (x ≡ n) ⊎ In (take i ys) n → (x ≡ n) ⊎ In (take (suc i) (y ∷ ys)) n
    by (inl e) = inl e
    by (inr m) = inr (inr m)

pub static_is : (d : PlainDesign) (k : ℕ) → is_static (component_of d k) ≡ is_some ((component_at d k).latency)
static_is d k = ap (λ (p : PlainComponent). is_some p.latency) (same_part d (length d.components) k)

-- what is taken stands before
taken_at : (xs : List ℕ) (i n : ℕ) → In (take i xs) n → (j : ℕ) × (j < i) × (slice_get xs j ≡ Some n)
taken_at xs zero n h = absurd h
taken_at [] (suc i) n h = absurd h
taken_at (x ∷ xs) (suc i) n (inl e) = (0, omega arith, ap (λ y. Some y) e)
taken_at (x ∷ xs) (suc i) n (inr h) = let r = taken_at xs i n h in (suc r.0, (let before = r.1 in omega (arith, before)), r.2)

-- whether one is there
pub is_there : (xs : List ℕ) (n : ℕ) → In xs n → is_one_of n xs ≡ true
is_there [] n h = absurd h
is_there (x ∷ xs) n (inl e) = ap (λ b. b || is_one_of n xs) (eq-eqb n x (sym e))
is_there (x ∷ xs) n (inr h) = by (nat_eq n x) (is_there xs n h)
  where
    by : (b : Bool) → is_one_of n xs ≡ true → b || is_one_of n xs ≡ true
    by true e = refl
    by false e = e

pub there_is : (xs : List ℕ) (n : ℕ) → is_one_of n xs ≡ true → In xs n
there_is [] n e = absurd (cc)
there_is (x ∷ xs) n e = by (nat_eq n x) refl e (there_is xs n)
  where
    by : (b : Bool) → nat_eq n x ≡ b → b || is_one_of n xs ≡ true → (is_one_of n xs ≡ true → In xs n) → (x ≡ n) ⊎ In xs n
    by true same e more = inl (sym (eqb-true n x same))
    by false other e more = inr (more e)

module _ (d : PlainDesign) (order : List ℕ) (first : IsChildrenFirst d order) where
  -- all that main is made of is in the order
  leads_in : (m k : ℕ) → LeadsTo d m k → In order m → In order k
  leads_in m k (by_cell j cell i e) here = let r = in_slice order m here in in_take r.0 order k (first.behind r.0 m k cell r.1 i e)
  leads_in m k (by_way_of j a b) here = leads_in j k b (leads_in m j a here)

  pub made_in : (k : ℕ) → IsMadeOf d k → In order k
  made_in k (inl e) = subst (In order) e first.main
  made_in k (inr l) = leads_in d.main k l first.main

  -- a component of the order has the same tree in levels enough
  tree_same : (n m i k : ℕ) → slice_get order i ≡ Some k → i < n → i < m → tree_within d n k ≡ tree_within d m k
  tree_same zero m i k at less fewer = absurd (omega (arith, less))
  tree_same (suc n) zero i k at less fewer = absurd (omega (arith, fewer))
  tree_same (suc n) (suc m) i k at less fewer =
      ap (Node (component_at d k)) (cells_same (tree_within d n) (tree_within d m) (component_at d k).cells
      (λ cell j here e. let r = taken_at order i j (first.behind i k j cell at here e) in tree_same n m r.0 j r.2 (let before = r.1 in omega (arith, before, less)) (let before = r.1 in omega (arith, before, fewer))))

  pub tree_at : (i k : ℕ) → slice_get order i ≡ Some k → component_of d k ≡ Node (component_at d k) (cells_for (component_of d) (component_at d k).cells)
  tree_at i k at =
      let within : i < length order = slice_get_within order i k at in
      let few = first.few in
      tree_same (length d.components) (suc (length d.components)) i k at (omega (arith, within, few)) (omega (arith, within, few))

  flat_at : (i k : ℕ) → slice_get order i ≡ Some k → flat_of d k ≡ flat_component (kids_for d (component_at d k).cells) (component_at d k)
  flat_at i k at = ap flat_part (tree_at i k at) ∙ ap (λ ks. flat_component ks (component_at d k)) (kids_below d (component_at d k).cells)

  -- its flat component, by the table
  pub kids_made : (table : Kids) (i k : ℕ) → slice_get order i ≡ Some k → ((j : ℕ) → HasCell (component_at d k).cells j → kid_of d j table) → flat_component (kids_of table (component_at d k).cells) (component_at d k) ≡ flat_of d k
  kids_made table i k at made = ap (λ ks. flat_component ks (component_at d k)) (kids_by d table (component_at d k).cells made) ∙ sym (flat_at i k at)

  -- THE NEXT of the order, by those that it has cells of
  pub next_kid : (table : Kids) (i k : ℕ) (part : PlainComponent) → slice_get order i ≡ Some k → part ≡ component_at d k → ((j : ℕ) → HasCell (component_at d k).cells j → kid_of d j table)
      → kid_if (is_some part.latency) (flat_component (kids_of table part.cells) part) ≡ kid_if (is_static (component_of d k)) (flat_of d k)
  next_kid table i k part at is made =
      ap (λ (p : PlainComponent). kid_if (is_some p.latency) (flat_component (kids_of table p.cells) p)) is
      ∙ ap (λ b. kid_if b (flat_component (kids_of table (component_at d k).cells) (component_at d k))) (sym (static_is d k))
      ∙ ap (kid_if (is_static (component_of d k))) (kids_made table i k at made)
