-- The flat design has no static components, and the external memories of the design.
use Rattle.std.proofs.Common.{◌≡◌, ℕ, zero, suc, ◌+◌, ◌<◌, ◌≤◌, inl, inr, Bool, true, false, ◌||◌, List, [], ◌∷◌, ◌++◌, length, map, get_or, Option, Some, None, refl, sym, ap, ◌∙◌, subst, arith}
use Rattle.std.proofs.lemmas.List.{append-nil, get_or-map, length-map}
use Rattle.std.specs.Prelude.{if◌then◌else◌}
use Rattle.std.proofs.lemmas.Bool.{eq-eqb}
use Rattle.cx_meaning.specs.declared.kinds.PortDecl.{PortDecl}
use Rattle.cx_meaning.specs.Designs.{PlainKind, OfPrimitive, OfComponent, PlainCell, PlainComponent, PlainDesign, component_at, no_component}
use Rattle.cx_meaning.specs.Instances.{Instance, Node, add_cell, cells_for, tree_within}
use Rattle.cx_text.specs.Members.{In}
use Rattle.cx_rules.specs.Ports.{component_of}
use Rattle.cx_rules.specs.Externals.{row_for, if_external, rows_of, external_rows}
use Rattle.cx_rules.specs.Wellformed.{IsExternal, IsDesign}
use Rattle.cx_rules.specs.Flat.{IsFlatPart, IsFlat}
use Rattle.cx_flattening.specs.Whole.{is_static}
use Rattle.cx_flattening.specs.Copies.{count_if}
use Rattle.cx_flattening.specs.Flattened.{Kids, kid_if, kept_if, kept, block, blocks, inner_cell, wire_of, flat_part, flat_kids}
use Rattle.cx_flattening.specs.FlatDesign.{any_of, flat_of, leads_within, is_reached, reached_from, reached_below, renumbered_kind, renumbered_cell, renumbered_part, flat_design}
use Rattle.cx_rules.proofs.SizesLemmas.{rows-both}

-- NO STATIC COMPONENTS
flat_is_flat : (i : Instance) → IsFlatPart (flat_part i)
flat_is_flat (Node part cells) = record { dynamic = refl; no_invoke = refl }

pub flat_design_flat : (d : PlainDesign) → IsFlat (flat_design d)
flat_design_flat d k less =
    subst IsFlatPart (sym (get_or-map (λ j. renumbered_part d (flat_of d j)) (reached_from d 0 (length d.components)) k 0 no_component (subst (λ n. k < n) (length-map (reached_from d 0 (length d.components)) (λ j. renumbered_part d (flat_of d j))) less)))
    (let h = flat_is_flat (component_of d (get_or (reached_from d 0 (length d.components)) k 0)) in record { dynamic = h.dynamic; no_invoke = h.no_invoke })

-- THE NEW NUMBER of one that is reached
module _ (d : PlainDesign) where
  reached_more : (k n : ℕ) → reached_below d (k + suc n) ≡ reached_below d (suc k + n)
  reached_more k n = ap (reached_below d) (plus k n)
    where
      plus : (a b : ℕ) → a + suc b ≡ suc a + b
      plus a b = omega arith

  -- among the numbers from k on, k + n has its place after those that are reached before
  reached_place : (k n count m : ℕ) → n < count → is_reached d (k + n) ≡ true → reached_below d k + m ≡ reached_below d (k + n)
      → (m < length (reached_from d k count)) × (get_or (reached_from d k count) m 0 ≡ k + n)
  reached_place k n zero m less is e = absurd (omega (arith, less))
  reached_place k zero (suc count) m less is e = choice (is_reached d k) (ap (is_reached d) (plus_zero k) ∙ is) none
    where
      plus_zero : (a : ℕ) → a ≡ a + 0
      plus_zero a = omega arith

      none : m ≡ 0
      none = let same : reached_below d (k + 0) ≡ reached_below d k = ap (reached_below d) (sym (plus_zero k)) in omega (arith, e, same)

      choice : (b : Bool) → b ≡ true → m ≡ 0 → (m < length (if b then k ∷ reached_from d (suc k) count else reached_from d (suc k) count)) × (get_or (if b then k ∷ reached_from d (suc k) count else reached_from d (suc k) count) m 0 ≡ k + 0)
      choice true f z = subst (λ x. (x < length (k ∷ reached_from d (suc k) count)) × (get_or (k ∷ reached_from d (suc k) count) x 0 ≡ k + 0)) (sym z) (omega arith, plus_zero k)
      choice false f z = absurd (cc)
  reached_place k (suc n) (suc count) m less is e =
      choice (is_reached d k) refl (λ x f. reached_place (suc k) n count x (omega (arith, less)) (ap (is_reached d) (sym (plus k n)) ∙ is) f)
    where
      plus : (a b : ℕ) → a + suc b ≡ suc a + b
      plus a b = omega arith

      all : reached_below d k + m ≡ reached_below d (suc k + n)
      all = e ∙ reached_more k n

      grows : (a b : ℕ) → reached_below d a + b ≡ reached_below d (a + 0) → b ≡ 0
      grows a b f = let same : reached_below d (a + 0) ≡ reached_below d a = ap (reached_below d) (let z : a + 0 ≡ a = omega arith in z) in omega (arith, f, same)

      choice : (b : Bool) → is_reached d k ≡ b
          → ((x : ℕ) → reached_below d (suc k) + x ≡ reached_below d (suc k + n) → (x < length (reached_from d (suc k) count)) × (get_or (reached_from d (suc k) count) x 0 ≡ suc k + n))
          → (m < length (if b then k ∷ reached_from d (suc k) count else reached_from d (suc k) count)) × (get_or (if b then k ∷ reached_from d (suc k) count else reached_from d (suc k) count) m 0 ≡ k + suc n)
      choice false f later =
          let r = later m (ap (λ b. count_if b (reached_below d k) + m) f ∙ all) in (r.0, r.1 ∙ sym (plus k n))
      choice true f later = positive m all
        where
          here : reached_below d (suc k) ≡ suc (reached_below d k)
          here = ap (λ b. count_if b (reached_below d k)) f

          more : (x : ℕ) → reached_below d (suc k) ≤ reached_below d (suc k + x)
          more zero = subst (λ y. reached_below d (suc k) ≤ reached_below d y) (let z : suc k ≡ suc k + 0 = omega arith in z) (omega arith)
          more (suc x) = subst (λ y. reached_below d (suc k) ≤ reached_below d y) (let z : suc (suc k + x) ≡ suc k + suc x = omega arith in z) (one (is_reached d (suc k + x)) (more x))
            where
              one : (b : Bool) → reached_below d (suc k) ≤ reached_below d (suc k + x) → reached_below d (suc k) ≤ count_if b (reached_below d (suc k + x))
              one true h = omega (arith, h)
              one false h = h

          positive : (x : ℕ) → reached_below d k + x ≡ reached_below d (suc k + n) → (x < length (k ∷ reached_from d (suc k) count)) × (get_or (k ∷ reached_from d (suc k) count) x 0 ≡ k + suc n)
          positive zero h = absurd (let grow = more n in let one = here in omega (arith, grow, one, h))
          positive (suc x) h = let r = later x (let one = here in omega (arith, one, h)) in let inside = r.0 in (omega (arith, inside), r.1 ∙ sym (plus k n))

  itself : (n k : ℕ) → leads_within d n k k ≡ true
  itself zero k = eq-eqb k k refl
  itself (suc n) k = ap (λ b. b || any_of (leads_within d n k) (flat_of d k).cells) (eq-eqb k k refl)

  -- main is the flat main
  pub main_is : d.main < length d.components → component_at (flat_design d) (flat_design d).main ≡ renumbered_part d (flat_of d d.main)
  main_is less =
      let r = reached_place 0 d.main (length d.components) (reached_below d d.main) less (ap (is_reached d) (zero_plus d.main) ∙ itself (length d.components) d.main) (zero_sum (reached_below d d.main) ∙ ap (reached_below d) (sym (zero_plus d.main))) in
      get_or-map (λ j. renumbered_part d (flat_of d j)) (reached_from d 0 (length d.components)) (reached_below d d.main) 0 no_component r.0
      ∙ ap (λ j. renumbered_part d (flat_of d j)) (r.1 ∙ zero_plus d.main)
    where
      zero_plus : (a : ℕ) → 0 + a ≡ a
      zero_plus a = omega arith

      zero_sum : (a : ℕ) → 0 + a ≡ a
      zero_sum a = omega arith

-- ROWS of external memories

row-renumbered : (d : PlainDesign) (c : PlainCell) → row_for (renumbered_cell d c) ≡ row_for c
row-renumbered d c = by_kind c.kind
  where
    by_kind : (kind : PlainKind) → row_for (record { name = c.name; kind = renumbered_kind d kind; external = c.external; place = c.place }) ≡ row_for (record { name = c.name; kind = kind; external = c.external; place = c.place })
    by_kind (OfPrimitive primitive) = refl
    by_kind (OfComponent k) = refl

rows-renumbered : (d : PlainDesign) (cs : List PlainCell) → rows_of (map (renumbered_cell d) cs) ≡ rows_of cs
rows-renumbered d [] = refl
rows-renumbered d (c ∷ cs) = choice c.external (rows-renumbered d cs)
  where
    choice : (b : Bool) → rows_of (map (renumbered_cell d) cs) ≡ rows_of cs → if_external b (renumbered_cell d c) (rows_of (map (renumbered_cell d) cs)) ≡ if_external b c (rows_of cs)
    choice true ih = ap (λ r. r ∷ rows_of (map (renumbered_cell d) cs)) (row-renumbered d c) ∙ ap (λ l. row_for c ∷ l) ih
    choice false ih = ih

-- cells of a block are not external
inner_none : (c : PlainCell) (cs : List PlainCell) → rows_of (map (inner_cell c) cs) ≡ []
inner_none c [] = refl
inner_none c (x ∷ xs) = inner_none c xs

wires_none : (c : PlainCell) (outputs : List PortDecl) → rows_of (map (wire_of c) outputs) ≡ []
wires_none c [] = refl
wires_none c (x ∷ xs) = wires_none c xs

blocks_none : (kids : Kids) (cs : List PlainCell) → rows_of (blocks kids cs) ≡ []
blocks_none [] cs = refl
blocks_none (k ∷ ks) [] = refl
blocks_none (k ∷ ks) (c ∷ cs) = rows-both (block k c) (blocks ks cs) ∙ ap (λ l. l ++ rows_of (blocks ks cs)) (one k) ∙ blocks_none ks cs
  where
    one : (o : Option PlainComponent) → rows_of (block o c) ≡ []
    one None = refl
    one (Some child) = rows-both (map (inner_cell c) child.cells) (map (wire_of c) child.outputs) ∙ ap (λ l. l ++ rows_of (map (wire_of c) child.outputs)) (inner_none c child.cells) ∙ wires_none c child.outputs

-- no cell of a component is external
abbrev NoneExternal : List PlainCell → Type 0
NoneExternal cs = (c : PlainCell) (k : ℕ) → In cs c → c.kind ≡ OfComponent k → c.external ≡ false

kept_rows : (trees : ℕ → Instance) (cs : List PlainCell) → NoneExternal cs → rows_of (kept (flat_kids (cells_for trees cs)) cs) ≡ rows_of cs
kept_rows trees [] none = refl
kept_rows trees (c ∷ cs) none = choice c.kind refl (kept_rows trees cs (λ x k i e. none x k (inr i) e))
  where
    alike : (l m : List PlainCell) (b : Bool) → rows_of l ≡ rows_of m → if_external b c (rows_of l) ≡ if_external b c (rows_of m)
    alike l m true e = ap (λ r. row_for c ∷ r) e
    alike l m false e = e

    choice : (kind : PlainKind) → c.kind ≡ kind → rows_of (kept (flat_kids (cells_for trees cs)) cs) ≡ rows_of cs → rows_of (kept (flat_kids (add_cell trees kind (cells_for trees cs))) (c ∷ cs)) ≡ rows_of (c ∷ cs)
    choice (OfPrimitive primitive) e ih = alike (kept (flat_kids (cells_for trees cs)) cs) cs c.external ih
    choice (OfComponent k) e ih = by_static (is_static (trees k))
      where
        by_static : (b : Bool) → rows_of (kept_if (kid_if b (flat_part (trees k))) c (kept (flat_kids (cells_for trees cs)) cs)) ≡ rows_of (c ∷ cs)
        by_static true = ih ∙ ap (λ b. if_external b c (rows_of cs)) (sym (none c k (inl refl) e))
        by_static false = alike (kept (flat_kids (cells_for trees cs)) cs) cs c.external ih

module _ (d : PlainDesign) (design : IsDesign d) where
  none_external : NoneExternal (component_at d d.main).cells
  none_external c k i e = choice c.external refl
    where
      choice : (b : Bool) → c.external ≡ b → b ≡ false
      choice false f = refl
      choice true f = absurd (subst (IsExternal d d.main) e (((design.components d.main design.main_there).cells c i).external f))

  flat_rows_within : (n : ℕ) → rows_of (flat_part (tree_within d n d.main)).cells ≡ rows_of (component_at d d.main).cells
  flat_rows_within zero = rows-both (component_at d d.main).cells [] ∙ append-nil (rows_of (component_at d d.main).cells)
  flat_rows_within (suc n) =
      rows-both (kept (flat_kids (cells_for (tree_within d n) (component_at d d.main).cells)) (component_at d d.main).cells) (blocks (flat_kids (cells_for (tree_within d n) (component_at d d.main).cells)) (component_at d d.main).cells)
      ∙ ap (λ l. rows_of (kept (flat_kids (cells_for (tree_within d n) (component_at d d.main).cells)) (component_at d d.main).cells) ++ l) (blocks_none (flat_kids (cells_for (tree_within d n) (component_at d d.main).cells)) (component_at d d.main).cells)
      ∙ append-nil (rows_of (kept (flat_kids (cells_for (tree_within d n) (component_at d d.main).cells)) (component_at d d.main).cells))
      ∙ kept_rows (tree_within d n) (component_at d d.main).cells none_external

  -- THE SAME EXTERNAL MEMORIES
  pub flat_rows : external_rows (flat_design d) ≡ external_rows d
  flat_rows =
      ap (λ part. rows_of part.cells) (main_is d design.main_there) ∙ rows-renumbered d (flat_of d d.main).cells ∙ flat_rows_within (length d.components)
