-- WHAT FLAT COMPONENTS LEAD TO: their components lead to it in the design, so no flat component leads back to itself.
use Rattle.std.proofs.Common.{◌≡◌, ℕ, zero, suc, ◌<◌, ⊎_elim, true, List, [], length, refl, sym, ap, ◌∙◌, subst}
use Rattle.cx_text.proofs.MemberLaws.{image_in, in_either}
use Rattle.cx_meaning.specs.Designs.{PlainKind, OfPrimitive, OfComponent, PlainCell, PlainComponent, PlainDesign, component_at}
use Rattle.cx_meaning.specs.Instances.{cells_for, tree_within}
use Rattle.cx_text.specs.Members.{In}
use Rattle.cx_rules.specs.Wellformed.{LeadsTo, by_cell, by_way_of, IsDesign}
use Rattle.cx_flattening.specs.Flattened.{Kids, kept, blocks, flat_kids, flat_part}
use Rattle.cx_flattening.specs.FlatDesign.{flat_of, is_reached, reached_below, renumbered_kind, renumbered_cell, flat_design}
use Rattle.cx_flattening.proofs.Reached.{flat_component_is, reached_apart}
use Rattle.cx_flattening.proofs.FlatComponents.{HasCell, kept_from, blocks_from, also_reached}
use Rattle.cx_flattening.proofs.FlatNumbers.{IsMade, made}

module _ (d : PlainDesign) where
  -- a cell of a flat component is one of the component, or of one that it leads to
  flat_leads : (m k x : ℕ) → HasCell (flat_part (tree_within d m k)).cells x → LeadsTo d k x
  flat_leads zero k x (cell, i, e) = ⊎_elim (λ j. by_cell x cell j e) (λ j. absurd j) (in_either (component_at d k).cells [] cell i)
  flat_leads (suc m) k x (cell, i, e) =
      ⊎_elim
      (λ j. by_cell x cell (kept_from kids cs cell j) e)
      (λ j. let r = blocks_from (tree_within d m) cs cell x j e in let c = r.1 in by_way_of r.0 (by_cell r.0 c.0 c.1 c.2) (flat_leads m r.0 x r.2))
      (in_either (kept kids cs) (blocks kids cs) cell i)
    where
      cs : List PlainCell
      cs = (component_at d k).cells

      kids : Kids
      kids = flat_kids (cells_for (tree_within d m) cs)

  module _ (design : IsDesign d) where
    -- the component that one of the flat design is made of
    record IsOld (x a : ℕ) : Type 0 where
      less : x < length d.components
      reached : is_reached d x ≡ true
      number : reached_below d x ≡ a

    abbrev LeadsOn : ℕ → ℕ → Type 0
    LeadsOn x b = (y : ℕ) × IsOld y b × LeadsTo d x y

    kind_back : (x b : ℕ) (cell : PlainCell) → is_reached d x ≡ true → In (flat_of d x).cells cell → (kind : PlainKind) → cell.kind ≡ kind → renumbered_kind d kind ≡ OfComponent b → LeadsOn x b
    kind_back x b cell reached i (OfPrimitive p) is e = absurd (cc)
    kind_back x b cell reached i (OfComponent y) is e =
        let h : HasCell (flat_of d x).cells y = (cell, i, is) in
        let r = also_reached d design x y reached h in
        let same : reached_below d y ≡ b = cc in
        (y, record { less = r.0; reached = r.1; number = same }, flat_leads (length d.components) x y h)

    leads_back : (a b : ℕ) → LeadsTo (flat_design d) a b → (x : ℕ) → IsOld x a → LeadsOn x b
    leads_back a b (by_cell j cell i e) x old =
        let is = sym (ap (component_at (flat_design d)) old.number) ∙ flat_component_is d x old.less old.reached in
        let r = image_in (renumbered_cell d) (flat_of d x).cells cell (subst (λ (p : PlainComponent). In p.cells cell) is i) in
        kind_back x b r.0 old.reached r.1 r.0.kind refl (ap (λ (c : PlainCell). c.kind) r.2 ∙ e)
    leads_back a b (by_way_of m first second) x old =
        let r = leads_back a m first x old in
        let s = leads_back m b second r.0 r.1 in
        (s.0, s.1, by_way_of r.0 r.2 s.2)

    -- NO FLAT COMPONENT LEADS BACK
    pub flat_not_recursive : (n : ℕ) → n < length (flat_design d).components → LeadsTo (flat_design d) n n → ⊥
    flat_not_recursive n there leads =
        let m : IsMade d n = made d design n there in
        let r = leads_back n n leads m.old (record { less = m.less; reached = m.reached; number = m.number }) in
        let same : r.0 ≡ m.old = reached_apart d r.0 m.old r.1.less m.less r.1.reached m.reached (r.1.number ∙ sym m.number) in
        design.not_recursive m.old (subst (LeadsTo d m.old) same r.2)
