-- The flat components of a design, from those of the cells of each; and the components that the flat main reaches.
use Rattle.std.proofs.Common.{◌≡◌, ℕ, zero, suc, ◌+◌, ◌<◌, ◌≤◌, Bool, true, false, List, [], ◌∷◌, ◌++◌, ◌⊎◌, inl, inr, ⊎_elim, Option, Some, None, length, map, refl, sym, ap, ◌∙◌, subst, arith}
use Rattle.cx_prim.specs.declared.names.PrimitiveName.TheVariants as primitives
use Rattle.cx_meaning.specs.declared.kinds.PortDecl.{PortDecl}
use Rattle.cx_meaning.specs.Designs.{PlainKind, OfPrimitive, OfComponent, PlainCell, PlainComponent, PlainDesign, component_at}
use Rattle.cx_meaning.specs.Instances.{add_cell, cells_for}
use Rattle.cx_text.specs.Members.{In}
use Rattle.cx_rules.specs.Ports.{component_of}
use Rattle.cx_rules.specs.Wellformed.{LeadsTo, by_cell, by_way_of, IsDesign}
use Rattle.cx_flattening.specs.Whole.{is_static}
use Rattle.cx_flattening.specs.Flattened.{Kids, kid_at, kept_if, kept, block, blocks, flat_cells, inner_cell, wire_of, flat_component, kid_if, flat_part, flat_kids}
use Rattle.cx_flattening.specs.FlatDesign.{flat_of}
use Rattle.cx_flattening.proofs.CellLayout.{kind_at}
use Rattle.cx_flattening.proofs.TreeLevels.{child_there, IsWay, no_way, further, way_is_short, levels}
use Rattle.cx_design_copies.proofs.EdgeLemmas.{HasCell}
use Rattle.cx_flat.specs.Tables.{kid_by, kids_of}

-- A COMPONENT AMONG CELLS
pub has_more : (c : PlainCell) (cs : List PlainCell) (j : ℕ) → HasCell cs j → HasCell (c ∷ cs) j
has_more c cs j (cell, i, e) = (cell, inr i, e)

has_front : (xs ys : List PlainCell) (j : ℕ) → HasCell xs j → HasCell (xs ++ ys) j
has_front [] ys j (cell, i, e) = absurd i
has_front (x ∷ xs) ys j (cell, inl same, e) = (cell, inl same, e)
has_front (x ∷ xs) ys j (cell, inr i, e) = has_more x (xs ++ ys) j (has_front xs ys j (cell, i, e))

has_behind : (xs ys : List PlainCell) (j : ℕ) → HasCell ys j → HasCell (xs ++ ys) j
has_behind [] ys j h = h
has_behind (x ∷ xs) ys j h = has_more x (xs ++ ys) j (has_behind xs ys j h)

has_either : (xs ys : List PlainCell) (j : ℕ) → HasCell (xs ++ ys) j → HasCell xs j ⊎ HasCell ys j
has_either [] ys j h = inr h
has_either (x ∷ xs) ys j (cell, inl same, e) = inl (cell, inl same, e)
has_either (x ∷ xs) ys j (cell, inr i, e) = by (has_either xs ys j (cell, i, e))
  where
    by : HasCell xs j ⊎ HasCell ys j → HasCell (x ∷ xs) j ⊎ HasCell ys j
    by (inl h) = inl (has_more x xs j h)
    by (inr h) = inr h

-- where it stands among them
pub stands_in : (cs : List PlainCell) (j : ℕ) → HasCell cs j → (e : ℕ) × (kind_at cs e ≡ Some (OfComponent j))
stands_in [] j (cell, i, e) = absurd i
stands_in (c ∷ cs) j (cell, inl same, e) = (0, ap (λ (x : PlainCell). Some x.kind) same ∙ ap (λ k. Some k) e)
stands_in (c ∷ cs) j (cell, inr i, e) = let r = stands_in cs j (cell, i, e) in (suc r.0, r.1)

-- the cells of a child keep their kinds, and wires are of no component
inner_has : (x : PlainCell) (cs : List PlainCell) (j : ℕ) → HasCell cs j → HasCell (map (inner_cell x) cs) j
inner_has x [] j (cell, i, e) = absurd i
inner_has x (c ∷ cs) j (cell, inl same, e) = (inner_cell x c, inl refl, ap (λ (y : PlainCell). y.kind) same ∙ e)
inner_has x (c ∷ cs) j (cell, inr i, e) = has_more (inner_cell x c) (map (inner_cell x) cs) j (inner_has x cs j (cell, i, e))

has_inner : (x : PlainCell) (cs : List PlainCell) (j : ℕ) → HasCell (map (inner_cell x) cs) j → HasCell cs j
has_inner x [] j (cell, i, e) = absurd i
has_inner x (c ∷ cs) j (cell, inl same, e) = (c, inl refl, ap (λ (y : PlainCell). y.kind) same ∙ e)
has_inner x (c ∷ cs) j (cell, inr i, e) = has_more c cs j (has_inner x cs j (cell, i, e))

no_wire : (x : PlainCell) (outputs : List PortDecl) (j : ℕ) → HasCell (map (wire_of x) outputs) j → ⊥
no_wire x [] j (cell, i, e) = i
no_wire x (o ∷ os) j (cell, inl same, e) = let no : OfPrimitive (record { name = primitives.Wire; numbers = o.width ∷ [] }) ≡ OfComponent j = ap (λ (y : PlainCell). y.kind) same ∙ e in absurd (cc)
no_wire x (o ∷ os) j (cell, inr i, e) = no_wire x os j (cell, i, e)

module _ (d : PlainDesign) where
  -- the flat component of a static child
  abbrev pub kid_for : PlainKind → Option PlainComponent
  kid_for (OfPrimitive primitive) = None
  kid_for (OfComponent j) = kid_if (is_static (component_of d j)) (flat_of d j)

  abbrev pub kids_for : List PlainCell → Kids
  kids_for cells = map (λ c. kid_for c.kind) cells

  pub kids_below : (cells : List PlainCell) → flat_kids (cells_for (component_of d) cells) ≡ kids_for cells
  kids_below [] = refl
  kids_below (c ∷ cs) = by c.kind ∙ ap (λ ks. kid_for c.kind ∷ ks) (kids_below cs)
    where
      by : (kind : PlainKind) → flat_kids (add_cell (component_of d) kind (cells_for (component_of d) cs)) ≡ kid_for kind ∷ flat_kids (cells_for (component_of d) cs)
      by (OfPrimitive primitive) = refl
      by (OfComponent j) = refl

  -- the table has them
  pub kids_by : (table : Kids) (cells : List PlainCell) → ((j : ℕ) → HasCell cells j → kid_at table j ≡ kid_if (is_static (component_of d j)) (flat_of d j)) → kids_of table cells ≡ kids_for cells
  kids_by table [] h = refl
  kids_by table (c ∷ cs) h = ap (λ k. k ∷ kids_of table cs) (by c.kind refl) ∙ ap (λ ks. kid_for c.kind ∷ ks) (kids_by table cs (λ j has. h j (has_more c cs j has)))
    where
      by : (kind : PlainKind) → c.kind ≡ kind → kid_by table kind ≡ kid_for kind
      by (OfPrimitive primitive) e = refl
      by (OfComponent j) e = h j (c, inl refl, e)

  -- CELLS OF A FLAT COMPONENT are kept, or stand in the block of a static child
  abbrev IsKept : List PlainCell → ℕ → Type 0
  IsKept cells j = HasCell cells j × (is_static (component_of d j) ≡ false)

  kept_more : (c : PlainCell) (cs : List PlainCell) (j : ℕ) → IsKept cs j → IsKept (c ∷ cs) j
  kept_more c cs j (has, dynamic) = (has_more c cs j has, dynamic)

  kept_has : (cells : List PlainCell) (j : ℕ) → HasCell (kept (kids_for cells) cells) j → IsKept cells j
  kept_has [] j (cell, i, e) = absurd i
  kept_has (c ∷ cs) j h = by c.kind refl h (kept_has cs j)
    where
      here : (m : ℕ) → c.kind ≡ OfComponent m → (b : Bool) → is_static (component_of d m) ≡ b → HasCell (kept_if (kid_if b (flat_of d m)) c (kept (kids_for cs) cs)) j → (HasCell (kept (kids_for cs) cs) j → IsKept cs j) → IsKept (c ∷ cs) j
      here m e true is h more = kept_more c cs j (more h)
      here m e false is (cell, inr i, k) more = kept_more c cs j (more (cell, i, k))
      here m e false is (cell, inl same, k) more =
          let also : c.kind ≡ OfComponent j = ap (λ (y : PlainCell). y.kind) same ∙ k in
          let equal : m ≡ j = (let both : OfComponent m ≡ OfComponent j = sym e ∙ also in cc) in
          ((c, inl refl, also), subst (λ n. is_static (component_of d n) ≡ false) equal is)

      by : (kind : PlainKind) → c.kind ≡ kind → HasCell (kept_if (kid_for kind) c (kept (kids_for cs) cs)) j → (HasCell (kept (kids_for cs) cs) j → IsKept cs j) → IsKept (c ∷ cs) j
      by (OfPrimitive primitive) e (cell, inl same, k) more = absurd (let no : OfPrimitive primitive ≡ OfComponent j = sym e ∙ ap (λ (y : PlainCell). y.kind) same ∙ k in cc)
      by (OfPrimitive primitive) e (cell, inr i, k) more = kept_more c cs j (more (cell, i, k))
      by (OfComponent m) e h more = here m e (is_static (component_of d m)) refl h more

  -- one of a static child
  abbrev pub Within : List PlainCell → ℕ → Type 0
  Within cells j = (i : ℕ) × HasCell cells i × (is_static (component_of d i) ≡ true) × HasCell (flat_of d i).cells j

  within_more : (c : PlainCell) (cs : List PlainCell) (j : ℕ) → Within cs j → Within (c ∷ cs) j
  within_more c cs j (i, has, static, inner) = (i, has_more c cs i has, static, inner)

  blocks_have : (cells : List PlainCell) (j : ℕ) → HasCell (blocks (kids_for cells) cells) j → Within cells j
  blocks_have [] j (cell, i, e) = absurd i
  blocks_have (c ∷ cs) j h = ⊎_elim (λ a. by c.kind refl a) (λ b. within_more c cs j (blocks_have cs j b)) (has_either (block (kid_for c.kind) c) (blocks (kids_for cs) cs) j h)
    where
      here : (m : ℕ) → c.kind ≡ OfComponent m → (b : Bool) → is_static (component_of d m) ≡ b → HasCell (block (kid_if b (flat_of d m)) c) j → Within (c ∷ cs) j
      here m e true is h =
          ⊎_elim (λ a. (m, (c, inl refl, e), is, has_inner c (flat_of d m).cells j a)) (λ b. absurd (no_wire c (flat_of d m).outputs j b))
          (has_either (map (inner_cell c) (flat_of d m).cells) (map (wire_of c) (flat_of d m).outputs) j h)
      here m e false is (cell, i, k) = absurd i

      by : (kind : PlainKind) → c.kind ≡ kind → HasCell (block (kid_for kind) c) j → Within (c ∷ cs) j
      by (OfPrimitive primitive) e (cell, i, k) = absurd i
      by (OfComponent m) e h = here m e (is_static (component_of d m)) refl h

  has_kept : (cells : List PlainCell) (j : ℕ) → HasCell cells j → is_static (component_of d j) ≡ false → HasCell (kept (kids_for cells) cells) j
  has_kept [] j (cell, i, e) dynamic = absurd i
  has_kept (c ∷ cs) j (cell, inl same, e) dynamic =
      let kind : c.kind ≡ OfComponent j = ap (λ (y : PlainCell). y.kind) same ∙ e in
      let none : kid_for c.kind ≡ None = ap kid_for kind ∙ ap (λ b. kid_if b (flat_of d j)) dynamic in
      subst (λ k. HasCell (kept_if k c (kept (kids_for cs) cs)) j) (sym none) (c, inl refl, kind)
  has_kept (c ∷ cs) j (cell, inr i, e) dynamic = by (kid_for c.kind) (has_kept cs j (cell, i, e) dynamic)
    where
      by : (k : Option PlainComponent) → HasCell (kept (kids_for cs) cs) j → HasCell (kept_if k c (kept (kids_for cs) cs)) j
      by None h = has_more c (kept (kids_for cs) cs) j h
      by (Some child) h = h

  has_block : (cells : List PlainCell) (i j : ℕ) → HasCell cells i → is_static (component_of d i) ≡ true → HasCell (flat_of d i).cells j → HasCell (blocks (kids_for cells) cells) j
  has_block [] i j (cell, at, e) static h = absurd at
  has_block (c ∷ cs) i j (cell, inl same, e) static h =
      let kind : c.kind ≡ OfComponent i = ap (λ (y : PlainCell). y.kind) same ∙ e in
      let some : kid_for c.kind ≡ Some (flat_of d i) = ap kid_for kind ∙ ap (λ b. kid_if b (flat_of d i)) static in
      has_front (block (kid_for c.kind) c) (blocks (kids_for cs) cs) j
      (subst (λ k. HasCell (block k c) j) (sym some) (has_front (map (inner_cell c) (flat_of d i).cells) (map (wire_of c) (flat_of d i).outputs) j (inner_has c (flat_of d i).cells j h)))
  has_block (c ∷ cs) i j (cell, inr at, e) static h = has_behind (block (kid_for c.kind) c) (blocks (kids_for cs) cs) j (has_block cs i j (cell, at, e) static h)

  module _ (rules : IsDesign d) where
    -- THE FLAT COMPONENT of a component, by those of its static children
    pub flat_is : (k : ℕ) → k < length d.components → flat_of d k ≡ flat_component (kids_for (component_at d k).cells) (component_at d k)
    flat_is k there =
        ap flat_part (levels d rules (length d.components) (suc (length d.components)) [] k (no_way d rules k there) (omega arith) (omega arith))
        ∙ ap (λ ks. flat_component ks (component_at d k)) (kids_below (component_at d k).cells)

    flat_cells_are : (k : ℕ) → k < length d.components → (flat_of d k).cells ≡ flat_cells (kids_for (component_at d k).cells) (component_at d k).cells
    flat_cells_are k there = ap (λ (p : PlainComponent). p.cells) (flat_is k there)

    has_there : (k j : ℕ) → k < length d.components → HasCell (component_at d k).cells j → j < length d.components
    has_there k j there (cell, i, e) = child_there d rules k j cell there i e

    has_leads : (k j : ℕ) → HasCell (component_at d k).cells j → LeadsTo d k j
    has_leads k j (cell, i, e) = by_cell j cell i e

    -- A COMPONENT AMONG THE CELLS of a flat component is below it, and not static
    pub record IsBelow (k j : ℕ) : Type 0 where
      pub leads : LeadsTo d k j
      pub dynamic : is_static (component_of d j) ≡ false
      pub there : j < length d.components

    -- below a cell's component, so below its own
    abbrev Deeper : ℕ → ℕ → Type 0
    Deeper k j = (i : ℕ) (cell : PlainCell) → In (component_at d k).cells cell → cell.kind ≡ OfComponent i → HasCell (flat_of d i).cells j → IsBelow i j

    below_within : (m : ℕ) (path : List ℕ) (k j : ℕ) → IsWay d rules path k → length d.components ≤ m + length path → HasCell (flat_of d k).cells j → IsBelow k j
    below_within zero path k j way many h = absurd (let short : length path < length d.components = way_is_short d rules path k way in omega arith)
    below_within (suc m) path k j way many h =
        ⊎_elim own (inner (λ i cell at e rest. below_within m (k ∷ path) i j (further d rules path k i cell way at e) (omega (arith, many)) rest)) (has_either (kept (kids_for (component_at d k).cells) (component_at d k).cells) (blocks (kids_for (component_at d k).cells) (component_at d k).cells) j (subst (λ cs. HasCell cs j) (flat_cells_are k here) h))
      where
        here : k < length d.components
        here = way.there k (inl refl)

        own : HasCell (kept (kids_for (component_at d k).cells) (component_at d k).cells) j → IsBelow k j
        own a = let r = kept_has (component_at d k).cells j a in record { leads = has_leads k j r.0; dynamic = r.1; there = has_there k j here r.0 }

        at : Deeper k j → Within (component_at d k).cells j → IsBelow k j
        at deeper (i, (cell, in_cells, e), static, rest) =
            let below = deeper i cell in_cells e rest in
            record { leads = by_way_of i (by_cell i cell in_cells e) below.leads; dynamic = below.dynamic; there = below.there }

        inner : Deeper k j → HasCell (blocks (kids_for (component_at d k).cells) (component_at d k).cells) j → IsBelow k j
        inner deeper b = at deeper (blocks_have (component_at d k).cells j b)

    pub below : (k j : ℕ) → k < length d.components → HasCell (flat_of d k).cells j → IsBelow k j
    below k j there h = below_within (length d.components) [] k j (no_way d rules k there) (omega arith) h

    pub own_has : (k j : ℕ) → k < length d.components → HasCell (component_at d k).cells j → is_static (component_of d j) ≡ false → HasCell (flat_of d k).cells j
    own_has k j there h dynamic =
        subst (λ cs. HasCell cs j) (sym (flat_cells_are k there))
        (has_front (kept (kids_for (component_at d k).cells) (component_at d k).cells) (blocks (kids_for (component_at d k).cells) (component_at d k).cells) j (has_kept (component_at d k).cells j h dynamic))

    pub child_has : (k i j : ℕ) → k < length d.components → HasCell (component_at d k).cells i → is_static (component_of d i) ≡ true → HasCell (flat_of d i).cells j → HasCell (flat_of d k).cells j
    child_has k i j there h static inner =
        subst (λ cs. HasCell cs j) (sym (flat_cells_are k there))
        (has_behind (kept (kids_for (component_at d k).cells) (component_at d k).cells) (blocks (kids_for (component_at d k).cells) (component_at d k).cells) j (has_block (component_at d k).cells i j h static inner))
