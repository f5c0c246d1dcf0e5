-- THE SIZE of the flat design is at most that counted of the design: each component that the flat main reaches is not static, and stands there once.
use Rattle.std.proofs.Common.{◌≡◌, ℕ, zero, suc, ◌+◌, ◌<◌, ◌≤◌, inl, inr, ⊎_elim, Bool, true, false, nat_eq, is_some, if◌then◌else◌, List, [], ◌∷◌, length, map, None, refl, sym, ap, ◌∙◌, subst, arith}
use Rattle.std.proofs.lemmas.Bool.{eqb-true}
use Rattle.std.proofs.lemmas.List.{length-map}
use Rattle.cx_text.proofs.MemberLaws.{in_either}
use Rattle.cx_meaning.specs.Designs.{PlainKind, OfPrimitive, OfComponent, PlainCell, PlainComponent, PlainDesign, component_at}
use Rattle.cx_meaning.specs.Instances.{Instance, add_cell, cells_for, tree_within}
use Rattle.cx_text.specs.Members.{In}
use Rattle.cx_meaning.proofs.DesignsLemmas.{same_part}
use Rattle.cx_rules.specs.Accepted.{IsAccepted}
use Rattle.cx_rules.specs.Counts.{unless_static, counted_size, counted_sizes, counted_design_size}
use Rattle.cx_rules.specs.Ports.{component_of}
use Rattle.cx_rules.specs.Sizes.{size_of, sizes_of, design_size}
use Rattle.cx_rules.specs.Wellformed.{IsDesign}
use Rattle.cx_flattening.specs.Whole.{is_static}
use Rattle.cx_flattening.specs.Ends.{NoneNamesDone}
use Rattle.cx_flattening.specs.Flattened.{Kids, kid_if, kept, blocks, flat_part, flat_kids}
use Rattle.cx_flattening.specs.FlatDesign.{any_of, flat_of, leads_within, is_reached, reached_from, renumbered_cell, renumbered_part, flat_design}
use Rattle.cx_flattening.proofs.CellLayout.{kind_in}
use Rattle.cx_flattening.proofs.CopiedSizes.{size_alike}
use Rattle.cx_flattening.proofs.FlatComponents.{HasCell, blocks_from, any_from, IsFound, found, also_reached}
use Rattle.cx_flattening.proofs.FlatStages.{good_component}
use Rattle.cx_flattening.proofs.FlatWeights.{flat_size}
use Rattle.cx_flattening.proofs.Reached.{itself}
use Rattle.cx_flattening.proofs.TreeLevels.{IsWay, further, way_is_short}
use Rattle.cx_text.proofs.BoolLaws.{or_either}
use Rattle.cx_text.proofs.OptionLaws.{none_of}

-- A CELL THAT IS KEPT is of no static component
kept_dynamic : (trees : ℕ → Instance) (cs : List PlainCell) (cell : PlainCell) (x : ℕ) → In (kept (flat_kids (cells_for trees cs)) cs) cell → cell.kind ≡ OfComponent x → is_static (trees x) ≡ false
kept_dynamic trees [] cell x i e = absurd i
kept_dynamic trees (c ∷ cs) cell x i e = by c.kind refl i (λ j. kept_dynamic trees cs cell x j e)
  where
    of_child : (y : ℕ) → c.kind ≡ OfComponent y → (b : Bool) → is_static (trees y) ≡ b → In (kept (kid_if b (flat_part (trees y)) ∷ flat_kids (cells_for trees cs)) (c ∷ cs)) cell
        → (In (kept (flat_kids (cells_for trees cs)) cs) cell → is_static (trees x) ≡ false) → is_static (trees x) ≡ false
    of_child y is true static j later = later j
    of_child y is false static (inl same) later =
        let kinds : OfComponent y ≡ OfComponent x = sym is ∙ ap (λ (k : PlainCell). k.kind) same ∙ e in
        let number : y ≡ x = cc in
        subst (λ k. is_static (trees k) ≡ false) number static
    of_child y is false static (inr j) later = later j

    by : (kind : PlainKind) → c.kind ≡ kind → In (kept (flat_kids (add_cell trees kind (cells_for trees cs))) (c ∷ cs)) cell
        → (In (kept (flat_kids (cells_for trees cs)) cs) cell → is_static (trees x) ≡ false) → is_static (trees x) ≡ false
    by (OfPrimitive p) is (inl same) later = let clash : OfPrimitive p ≡ OfComponent x = sym is ∙ ap (λ (k : PlainCell). k.kind) same ∙ e in absurd (cc)
    by (OfPrimitive p) is (inr j) later = later j
    by (OfComponent y) is j later = of_child y is (is_static (trees y)) refl j later

renumbered_size : (d : PlainDesign) (p : PlainComponent) → size_of (renumbered_part d p) ≡ size_of p
renumbered_size d p = size_alike (renumbered_part d p) p (λ g. refl) refl refl (length-map p.cells (renumbered_cell d)) refl refl refl

module _ (d : PlainDesign) (design : IsDesign d) where
  -- nor is a cell of a flat component
  cell_dynamic : (m : ℕ) (path : List ℕ) (j : ℕ) → IsWay d design path j → length d.components ≤ m + length path → (x : ℕ) → HasCell (flat_part (tree_within d m j)).cells x → (component_at d x).latency ≡ None
  cell_dynamic zero path j way many x h = absurd (let short : length path < length d.components = way_is_short d design path j way in omega (arith, short, many))
  cell_dynamic (suc m) path j way many x (cell, i, e) =
      ⊎_elim
      (λ l. none_of (component_at d x).latency (ap (λ (p : PlainComponent). is_some p.latency) (sym (same_part d m x)) ∙ kept_dynamic (tree_within d m) cs cell x l e))
      (λ l.
      let r = blocks_from (tree_within d m) cs cell x l e in
      let c = r.1 in
      cell_dynamic m (j ∷ path) r.0 (further d design path j r.0 c.0 way c.1 c.2) (omega (arith, many)) x r.2)
      (in_either (kept kids cs) (blocks kids cs) cell i)
    where
      cs : List PlainCell
      cs = (component_at d j).cells

      kids : Kids
      kids = flat_kids (cells_for (tree_within d m) cs)

  -- A COMPONENT THAT IS REACHED is not static
  leads_dynamic : (k n j : ℕ) → is_reached d j ≡ true → (component_at d j).latency ≡ None → leads_within d n k j ≡ true → (component_at d k).latency ≡ None
  leads_dynamic k zero j reached dynamic leads = subst (λ x. (component_at d x).latency ≡ None) (eqb-true j k leads) dynamic
  leads_dynamic k (suc n) j reached dynamic leads =
      ⊎_elim
      (λ same. subst (λ x. (component_at d x).latency ≡ None) (eqb-true j k same) dynamic)
      (λ h.
      let r = any_from (leads_within d n k) (flat_of d j).cells h in
      let cell = kind_in (flat_of d j).cells r.0 (OfComponent r.1) r.2 in
      let f : IsFound d design j = found d design j reached in
      leads_dynamic k n r.1 (also_reached d design j r.1 reached cell).1 (cell_dynamic (length d.components) f.path j f.way (omega arith) r.1 cell) r.3)
      (or_either (nat_eq j k) (any_of (leads_within d n k) (flat_of d j).cells) leads)

  pub reached_dynamic : (k : ℕ) → is_reached d k ≡ true → (component_at d k).latency ≡ None
  reached_dynamic k reached = leads_dynamic k (length d.components) d.main (itself d (length d.components) d.main) design.main_dynamic reached

  module _ (accepted : IsAccepted d) (undone : NoneNamesDone d) where
    abbrev all_sizes : List ℕ → ℕ
    all_sizes ks = sizes_of (map (λ k. renumbered_part d (flat_of d k)) ks)

    size_there : (k : ℕ) → k < length d.components → size_of (renumbered_part d (flat_of d k)) ≡ counted_size (component_of d k)
    size_there k less = let g = good_component d design accepted undone k less in renumbered_size d (flat_of d k) ∙ flat_size (component_of d k) g.rules g.fair g.controlled

    reached_sizes : (n k : ℕ) → k + n ≤ length d.components → all_sizes (reached_from d k n) + counted_sizes d k ≤ counted_sizes d (k + n)
    reached_sizes zero k within = subst (λ m. 0 + counted_sizes d k ≤ counted_sizes d m) (let z : k ≡ k + 0 = omega arith in z) (omega arith)
    reached_sizes (suc n) k within = subst (λ m. all_sizes (reached_from d k (suc n)) + counted_sizes d k ≤ counted_sizes d m) (let z : suc k + n ≡ k + suc n = omega arith in z)
        (by (is_reached d k) refl (reached_sizes n (suc k) (omega (arith, within))))
      where
        by : (b : Bool) → is_reached d k ≡ b → all_sizes (reached_from d (suc k) n) + counted_sizes d (suc k) ≤ counted_sizes d (suc k + n)
            → all_sizes (if b then k ∷ reached_from d (suc k) n else reached_from d (suc k) n) + counted_sizes d k ≤ counted_sizes d (suc k + n)
        by true is later =
            let own = size_there k (omega (arith, within)) in
            let one : counted_sizes d (suc k) ≡ counted_size (component_of d k) + 1 + counted_sizes d k = ap (λ o. unless_static o (counted_size (component_of d k) + 1) + counted_sizes d k) (reached_dynamic k is) in
            omega (arith, own, one, later)
        by false is later =
            let more : counted_sizes d (suc k) ≡ unless_static (component_at d k).latency (counted_size (component_of d k) + 1) + counted_sizes d k = refl in
            omega (arith, more, later)

    -- THE SIZE
    pub design_sizes : design_size (flat_design d) ≤ counted_design_size d
    design_sizes =
        let all = reached_sizes (length d.components) 0 (omega arith) in
        let z : 0 + length d.components ≡ length d.components = omega arith in
        let same : counted_sizes d (0 + length d.components) ≡ counted_design_size d = ap (counted_sizes d) z in
        omega (arith, all, same)
