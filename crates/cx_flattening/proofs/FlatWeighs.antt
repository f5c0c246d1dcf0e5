-- PARTS OF THE FLAT DESIGN: each of its components stands in its tree, so its size is at most its weight.
use Rattle.std.proofs.Common.{◌≡◌, ◌≢◌, ℕ, zero, suc, ◌+◌, ◌-◌, ◌<◌, ◌≤◌, inl, inr, ⊎_elim, true, nat_eq, List, [], ◌∷◌, ◌++◌, length, map, get_or, refl, sym, ap, ◌∙◌, subst, arith}
use Rattle.std.proofs.lemmas.Bool.{eqb-true}
use Rattle.cx_text.proofs.BoolLaws.{or_either}
use Rattle.cx_text.proofs.MemberLaws.{in_image, in_left, in_right}
use Rattle.cx_meaning.specs.Designs.{PlainKind, OfPrimitive, OfComponent, PlainCell, PlainComponent, PlainDesign, component_at, no_component}
use Rattle.cx_meaning.specs.Instances.{Instance, add_cell, cells_for, tree_within, tree_of}
use Rattle.cx_text.specs.Members.{In}
use Rattle.cx_rules.specs.Sizes.{size_of, weight_below, weight_in, sizes_of, design_size}
use Rattle.cx_rules.specs.Wellformed.{IsDesign}
use Rattle.cx_flattening.specs.FlatDesign.{any_of, flat_of, leads_within, is_reached, reached_below, renumbered_kind, renumbered_cell, flat_design}
use Rattle.cx_flattening.proofs.CellLayout.{kind_in}
use Rattle.cx_flattening.proofs.Reached.{itself, leads_far, flat_component_is}
use Rattle.cx_flattening.proofs.FlatTrees.{few_ups}
use Rattle.cx_flattening.proofs.FlatComponents.{any_from, IsFound, found, also_reached}
use Rattle.cx_flattening.proofs.FlatNumbers.{IsMade, made}

-- THE NUMBERS of the components of a tree
abbrev kind_numbers : (ℕ → List ℕ) → PlainKind → List ℕ → List ℕ
kind_numbers each (OfPrimitive p) rest = rest
kind_numbers each (OfComponent k) rest = each k ++ rest

abbrev cells_numbers : (ℕ → List ℕ) → List PlainCell → List ℕ
cells_numbers each [] = []
cells_numbers each (c ∷ cs) = kind_numbers each c.kind (cells_numbers each cs)

abbrev numbers_within : PlainDesign → ℕ → ℕ → List ℕ
numbers_within f zero k = k ∷ []
numbers_within f (suc n) k = k ∷ cells_numbers (numbers_within f n) (component_at f k).cells

in_cells : (each : ℕ → List ℕ) (cs : List PlainCell) (cell : PlainCell) (y k : ℕ) → In cs cell → cell.kind ≡ OfComponent y → In (each y) k → In (cells_numbers each cs) k
in_cells each [] cell y k i e h = absurd i
in_cells each (c ∷ cs) cell y k (inl same) e h =
    subst (λ x. In (kind_numbers each x (cells_numbers each cs)) k) (sym (ap (λ (x : PlainCell). x.kind) same ∙ e)) (in_left (each y) (cells_numbers each cs) k h)
in_cells each (c ∷ cs) cell y k (inr i) e h = later c.kind (in_cells each cs cell y k i e h)
  where
    later : (kind : PlainKind) → In (cells_numbers each cs) k → In (kind_numbers each kind (cells_numbers each cs)) k
    later (OfPrimitive p) j = j
    later (OfComponent x) j = in_right (each x) (cells_numbers each cs) k j

module _ (f : PlainDesign) where
  -- SIZES of components by their numbers
  abbrev total : List ℕ → ℕ
  total [] = 0
  total (k ∷ ks) = size_of (component_at f k) + 1 + total ks

  total_both : (xs ys : List ℕ) → total (xs ++ ys) ≡ total xs + total ys
  total_both [] ys = let z : total ys ≡ 0 + total ys = omega arith in z
  total_both (x ∷ xs) ys = let ih = total_both xs ys in omega (arith, ih)

  kind_weight : (trees : ℕ → Instance) (each : ℕ → List ℕ) → ((k : ℕ) → weight_below (trees k) ≡ total (each k)) → (kind : PlainKind) (cs : List PlainCell)
      → weight_in (cells_for trees cs) ≡ total (cells_numbers each cs) → weight_in (add_cell trees kind (cells_for trees cs)) ≡ total (kind_numbers each kind (cells_numbers each cs))
  kind_weight trees each h (OfPrimitive p) cs later = later
  kind_weight trees each h (OfComponent k) cs later = let own = h k in let both = total_both (each k) (cells_numbers each cs) in omega (arith, own, both, later)

  cells_weight : (trees : ℕ → Instance) (each : ℕ → List ℕ) → ((k : ℕ) → weight_below (trees k) ≡ total (each k)) → (cs : List PlainCell) → weight_in (cells_for trees cs) ≡ total (cells_numbers each cs)
  cells_weight trees each h [] = refl
  cells_weight trees each h (c ∷ cs) = kind_weight trees each h c.kind cs (cells_weight trees each h cs)

  weight_is : (n k : ℕ) → weight_below (tree_within f n k) ≡ total (numbers_within f n k)
  weight_is zero k = refl
  weight_is (suc n) k = ap (λ m. size_of (component_at f k) + 1 + m) (cells_weight (tree_within f n) (numbers_within f n) (weight_is n) (component_at f k).cells)

  -- a list without one of its numbers
  abbrev Without : List ℕ → ℕ → Type 0
  Without ks a = (rest : List ℕ) × (total ks ≡ size_of (component_at f a) + 1 + total rest) × ((b : ℕ) → In ks b → b ≢ a → In rest b)

  without : (ks : List ℕ) (a : ℕ) → In ks a → Without ks a
  without [] a i = absurd i
  without (k ∷ ks) a (inl e) = (ks, ap (λ x. size_of (component_at f x) + 1 + total ks) e, λ b j apart. other b j apart)
    where
      other : (b : ℕ) → In (k ∷ ks) b → b ≢ a → In ks b
      other b (inl same) apart = absurd (apart (sym same ∙ e))
      other b (inr j) apart = j
  without (k ∷ ks) a (inr i) =
      let r = without ks a i in
      let sum = r.1 in
      (k ∷ r.0, omega (arith, sum), λ b j apart. other r.0 r.2 b j apart)
    where
      other : (rest : List ℕ) → ((b : ℕ) → In ks b → b ≢ a → In rest b) → (b : ℕ) → In (k ∷ ks) b → b ≢ a → In (k ∷ rest) b
      other rest h b (inl same) apart = inl same
      other rest h b (inr j) apart = inr (h b j apart)

  -- components that are all among them
  all_among : (xs : List PlainComponent) (a : ℕ) → ((n : ℕ) → n < length xs → component_at f (a + n) ≡ get_or xs n no_component) → (ks : List ℕ) → ((n : ℕ) → n < length xs → In ks (a + n)) → sizes_of xs ≤ total ks
  all_among [] a is ks h = omega arith
  all_among (x ∷ xs) a is ks h =
      let r = without ks a (subst (In ks) (plus_zero a) (h 0 (omega arith))) in
      let sum = r.1 in
      let first : size_of (component_at f a) ≡ size_of x = ap size_of (ap (component_at f) (sym (plus_zero a)) ∙ is 0 (omega arith)) in
      let rest : sizes_of xs ≤ total r.0 =
      all_among xs (suc a) (λ n less. ap (component_at f) (next a n) ∙ is (suc n) (omega (arith, less))) r.0
      (λ n less. r.2 (suc a + n) (subst (In ks) (sym (next a n)) (h (suc n) (omega (arith, less)))) (λ e. omega (arith, e))) in
      omega (arith, sum, first, rest)
    where
      plus_zero : (b : ℕ) → b + 0 ≡ b
      plus_zero b = omega arith

      next : (b n : ℕ) → suc b + n ≡ b + suc n
      next b n = omega arith

module _ (d : PlainDesign) (design : IsDesign d) where
  abbrev flat : PlainDesign
  flat = flat_design d

  -- what leads to a component has it in its tree
  in_numbers : (n k j : ℕ) → j < length d.components → is_reached d j ≡ true → leads_within d n k j ≡ true → In (numbers_within flat n (reached_below d j)) (reached_below d k)
  in_numbers zero k j less reached leads = inl (ap (reached_below d) (eqb-true j k leads))
  in_numbers (suc n) k j less reached leads =
      ⊎_elim
      (λ h. inl (ap (reached_below d) (eqb-true j k h)))
      (λ h.
      let r = any_from (leads_within d n k) (flat_of d j).cells h in
      let c = kind_in (flat_of d j).cells r.0 (OfComponent r.1) r.2 in
      let x = also_reached d design j r.1 reached c in
      inr (subst (λ (p : PlainComponent). In (cells_numbers (numbers_within flat n) p.cells) (reached_below d k)) (sym (flat_component_is d j less reached))
      (in_cells (numbers_within flat n) (map (renumbered_cell d) (flat_of d j).cells) (renumbered_cell d c.0) (reached_below d r.1) (reached_below d k) (in_image (renumbered_cell d) (flat_of d j).cells c.0 c.1)
      (renumbered_is c.0.kind r.1 c.2) (in_numbers n k r.1 x.0 x.1 r.3))))
      (or_either (nat_eq j k) (any_of (leads_within d n k) (flat_of d j).cells) leads)
    where
      renumbered_is : (kind : PlainKind) (x : ℕ) → kind ≡ OfComponent x → renumbered_kind d kind ≡ OfComponent (reached_below d x)
      renumbered_is kind x e = ap (renumbered_kind d) e

  each_stands : (n : ℕ) → n < length flat.components → In (numbers_within flat (length flat.components) flat.main) n
  each_stands n there =
      let m : IsMade d n = made d design n there in
      let f : IsFound d design m.old = found d design m.old m.reached in
      let few = few_ups d design f.ups m.old f.top in
      let all : (length flat.components - length f.ups) + length f.ups ≡ length flat.components = omega (arith, few) in
      subst (In (numbers_within flat (length flat.components) flat.main)) m.number
      (in_numbers (length flat.components) m.old d.main design.main_there (itself d (length d.components) d.main)
      (subst (λ x. leads_within d x m.old d.main ≡ true) all (leads_far d (length flat.components - length f.ups) (length f.ups) m.old d.main f.top.steps)))

  -- AS MUCH AS IT WEIGHS
  pub size_within_weight : design_size flat ≤ weight_below (tree_of flat)
  size_within_weight =
      let most = all_among flat flat.components 0 (λ n less. ap (component_at flat) (zero_plus n)) (numbers_within flat (length flat.components) flat.main) (λ n less. subst (In (numbers_within flat (length flat.components) flat.main)) (sym (zero_plus n)) (each_stands n less)) in
      let same = weight_is flat (length flat.components) flat.main in
      omega (arith, most, same)
    where
      zero_plus : (a : ℕ) → 0 + a ≡ a
      zero_plus a = omega arith
