-- EACH COMPONENT that the flat main reaches, with what is below it, is flattened in the flat design.
use Rattle.std.proofs.Common.{◌≡◌, ℕ, zero, suc, ◌+◌, ◌<◌, ◌≤◌, inl, inr, ⊎_elim, Bool, true, false, ◌||◌, nat_eq, List, [], ◌∷◌, ◌++◌, length, map, Some, None, refl, ap, ◌∙◌, subst, arith}
use Rattle.std.proofs.lemmas.Bool.{eqb-true}
use Rattle.cx_text.proofs.BoolLaws.{or_either}
use Rattle.cx_text.proofs.MemberLaws.{in_either}
use Rattle.cx_meaning.specs.declared.kinds.PortDecl.{PortDecl}
use Rattle.cx_meaning.specs.Designs.{PlainKind, OfPrimitive, OfComponent, PlainCell, PlainComponent, PlainDesign, component_at}
use Rattle.cx_meaning.specs.Instances.{Instance, add_cell, cells_for, tree_within}
use Rattle.cx_text.specs.Members.{In}
use Rattle.cx_rules.specs.Ports.{component_of}
use Rattle.cx_rules.specs.Wellformed.{IsDesign}
use Rattle.cx_flattening.specs.Whole.{is_static}
use Rattle.cx_flattening.specs.Flattened.{Kids, kid_if, kept, block, blocks, inner_cell, wire_of, flat_part, flat_kids}
use Rattle.cx_flattening.specs.Embedded.{IsFlattened}
use Rattle.cx_flattening.specs.FlatDesign.{kind_of, any_of, flat_of, leads_within, is_reached, reached_below, flat_design}
use Rattle.cx_flattening.proofs.CellLayout.{kind_at, kind_in}
use Rattle.cx_flattening.proofs.TreeLevels.{IsWay, no_way, further, way_is_short}
use Rattle.cx_flattening.proofs.FlatTrees.{IsTop, further_top, flattened, embedded, main_top}

-- a cell of component x
abbrev pub HasCell : List PlainCell → ℕ → Type 0
HasCell cs x = (cell : PlainCell) × In cs cell × (cell.kind ≡ OfComponent x)

pub kept_from : (kids : Kids) (cs : List PlainCell) (cell : PlainCell) → In (kept kids cs) cell → In cs cell
kept_from [] cs cell i = i
kept_from (k ∷ ks) [] cell i = absurd i
kept_from (None ∷ ks) (c ∷ cs) cell (inl e) = inl e
kept_from (None ∷ ks) (c ∷ cs) cell (inr i) = inr (kept_from ks cs cell i)
kept_from (Some child ∷ ks) (c ∷ cs) cell i = inr (kept_from ks cs cell i)

inner_from : (c : PlainCell) (cs : List PlainCell) (cell : PlainCell) (x : ℕ) → In (map (inner_cell c) cs) cell → cell.kind ≡ OfComponent x → HasCell cs x
inner_from c [] cell x i e = absurd i
inner_from c (d ∷ cs) cell x (inl same) e = (d, inl refl, ap (λ (k : PlainCell). k.kind) same ∙ e)
inner_from c (d ∷ cs) cell x (inr i) e = let r = inner_from c cs cell x i e in (r.0, inr r.1, r.2)

no_wire : (c : PlainCell) (outputs : List PortDecl) (cell : PlainCell) (x : ℕ) → In (map (wire_of c) outputs) cell → cell.kind ≡ OfComponent x → ⊥
no_wire c [] cell x i e = absurd i
no_wire c (o ∷ os) cell x (inl same) e = let clash : (wire_of c o).kind ≡ OfComponent x = ap (λ (k : PlainCell). k.kind) same ∙ e in absurd (cc)
no_wire c (o ∷ os) cell x (inr i) e = no_wire c os cell x i e

-- of a static child in a block
abbrev pub FromChild : (ℕ → Instance) → List PlainCell → ℕ → Type 0
FromChild trees cs x = (y : ℕ) × HasCell cs y × HasCell (flat_part (trees y)).cells x

block_from : (child : PlainComponent) (c : PlainCell) (cell : PlainCell) (x : ℕ) → In (block (Some child) c) cell → cell.kind ≡ OfComponent x → HasCell child.cells x
block_from child c cell x i e =
    ⊎_elim (λ j. inner_from c child.cells cell x j e) (λ j. absurd (no_wire c child.outputs cell x j e)) (in_either (map (inner_cell c) child.cells) (map (wire_of c) child.outputs) cell i)

pub blocks_from : (trees : ℕ → Instance) (cs : List PlainCell) (cell : PlainCell) (x : ℕ) → In (blocks (flat_kids (cells_for trees cs)) cs) cell → cell.kind ≡ OfComponent x → FromChild trees cs x
blocks_from trees [] cell x i e = absurd i
blocks_from trees (c ∷ cs) cell x i e = by c.kind refl i (λ j. let r = blocks_from trees cs cell x j e in let h = r.1 in (r.0, (h.0, inr h.1, h.2), r.2))
  where
    of_child : (y : ℕ) → c.kind ≡ OfComponent y → (b : Bool) → In (block (kid_if b (flat_part (trees y))) c ++ blocks (flat_kids (cells_for trees cs)) cs) cell
        → (In (blocks (flat_kids (cells_for trees cs)) cs) cell → FromChild trees (c ∷ cs) x) → FromChild trees (c ∷ cs) x
    of_child y is true j later =
        ⊎_elim (λ l. (y, (c, inl refl, is), block_from (flat_part (trees y)) c cell x l e)) later (in_either (block (Some (flat_part (trees y))) c) (blocks (flat_kids (cells_for trees cs)) cs) cell j)
    of_child y is false j later = later j

    by : (kind : PlainKind) → c.kind ≡ kind → In (blocks (flat_kids (add_cell trees kind (cells_for trees cs))) (c ∷ cs)) cell
        → (In (blocks (flat_kids (cells_for trees cs)) cs) cell → FromChild trees (c ∷ cs) x) → FromChild trees (c ∷ cs) x
    by (OfPrimitive p) is j later = later j
    by (OfComponent y) is j later = of_child y is (is_static (trees y)) j later

abbrev pub HasOne : (ℕ → Bool) → List PlainCell → Type 0
HasOne property cs = (e : ℕ) × (x : ℕ) × (kind_at cs e ≡ Some (OfComponent x)) × (property x ≡ true)

pub any_from : (property : ℕ → Bool) (cs : List PlainCell) → any_of property cs ≡ true → HasOne property cs
any_from property [] h = absurd (cc)
any_from property (c ∷ cs) h = by c.kind refl h (λ g. let r = any_from property cs g in (suc r.0, r.1, r.2, r.3))
  where
    own : (k : ℕ) (b : Bool) → c.kind ≡ OfComponent k → property k ≡ b → b || any_of property cs ≡ true → (any_of property cs ≡ true → HasOne property (c ∷ cs)) → HasOne property (c ∷ cs)
    own k true is holds g later = (0, k, ap Some is, holds)
    own k false is holds g later = later g

    by : (kind : PlainKind) → c.kind ≡ kind → kind_of property kind || any_of property cs ≡ true → (any_of property cs ≡ true → HasOne property (c ∷ cs)) → HasOne property (c ∷ cs)
    by (OfPrimitive p) is g later = later g
    by (OfComponent k) is g later = own k (property k) is refl g later

-- where such a cell is
cell_number : (cs : List PlainCell) (x : ℕ) → HasCell cs x → (e : ℕ) × (kind_at cs e ≡ Some (OfComponent x))
cell_number [] x h = absurd h.1
cell_number (c ∷ cs) x (cell, inl same, e) = (0, ap Some (ap (λ (k : PlainCell). k.kind) same ∙ e))
cell_number (c ∷ cs) x (cell, inr i, e) = let r = cell_number cs x (cell, i, e) in (suc r.0, r.1)

module _ (d : PlainDesign) (design : IsDesign d) where
  -- a way on, to the component of a cell
  record IsFurther (path : List ℕ) (x : ℕ) : Type 0 where
    on : List ℕ
    way : IsWay d design on x
    within : (y : ℕ) → In path y → In on y

  flat_cell : (m : ℕ) (path : List ℕ) (j : ℕ) → IsWay d design path j → length d.components ≤ m + length path → (x : ℕ) → HasCell (flat_part (tree_within d m j)).cells x → IsFurther (j ∷ path) x
  flat_cell zero path j way many x h = absurd (let short : length path < length d.components = way_is_short d design path j way in omega (arith, short, many))
  flat_cell (suc m) path j way many x (cell, i, e) =
      ⊎_elim
      (λ l. record { on = j ∷ path; way = further d design path j x cell way (kept_from kids cs cell l) e; within = λ y k. k })
      (λ l.
      let r = blocks_from (tree_within d m) cs cell x l e in
      let c = r.1 in
      let g = flat_cell m (j ∷ path) r.0 (further d design path j r.0 c.0 way c.1 c.2) (omega (arith, many)) x r.2 in
      record { on = g.on; way = g.way; within = λ y k. g.within y (inr k) })
      (in_either (kept kids cs) (blocks kids cs) cell i)
    where
      cs : List PlainCell
      cs = (component_at d j).cells

      kids : Kids
      kids = flat_kids (cells_for (tree_within d m) cs)

  -- how a component is reached
  pub record IsFound (k : ℕ) : Type 0 where
    pub path : List ℕ
    pub ups : List ℕ
    pub way : IsWay d design path k
    pub top : IsTop d design ups k
    pub within : (x : ℕ) → In ups x → In path x

  here : (path : List ℕ) (j : ℕ) (ups : List ℕ) → IsWay d design path j → IsTop d design ups j → ((x : ℕ) → In ups x → In path x) → (k : ℕ) → nat_eq j k ≡ true → IsFound k
  here path j ups way top within k same = subst IsFound (eqb-true j k same) (record { path = path; ups = ups; way = way; top = top; within = within })

  walk : (n : ℕ) (path : List ℕ) (j : ℕ) (ups : List ℕ) → IsWay d design path j → IsTop d design ups j → ((x : ℕ) → In ups x → In path x) → (k : ℕ) → leads_within d n k j ≡ true → IsFound k
  walk zero path j ups way top within k leads = here path j ups way top within k leads
  walk (suc n) path j ups way top within k leads =
      ⊎_elim (here path j ups way top within k)
      (λ h.
      let r = any_from (leads_within d n k) (flat_of d j).cells h in
      let g = flat_cell (length d.components) path j way (omega arith) r.1 (kind_in (flat_of d j).cells r.0 (OfComponent r.1) r.2) in
      walk n g.on r.1 (j ∷ ups) g.way (further_top d design ups j r.1 r.0 top r.2 (g.way.there r.1 (inl refl)) (λ i. g.way.apart.0 (inside g.on r.1 g.within r.1 i))) (inside g.on r.1 g.within) k r.3)
      (or_either (nat_eq j k) (any_of (leads_within d n k) (flat_of d j).cells) leads)
    where
      inside : (on : List ℕ) (x : ℕ) → ((y : ℕ) → In (j ∷ path) y → In on y) → (y : ℕ) → In (j ∷ ups) y → In on y
      inside on x further_within y (inl e) = further_within y (inl e)
      inside on x further_within y (inr i) = further_within y (inr (within y i))

  pub found : (k : ℕ) → is_reached d k ≡ true → IsFound k
  found k reached = walk (length d.components) [] d.main [] (no_way d design d.main design.main_there) (main_top d design) (λ x i. absurd i) k reached

  -- EACH OF THEM
  pub flat_component : (k : ℕ) → is_reached d k ≡ true → IsFlattened (component_of d k) (component_of (flat_design d) (reached_below d k))
  flat_component k reached =
      let f = found k reached in
      flattened d design (length d.components) (embedded d design (length d.components)) f.path k (length (flat_design d).components) f.ups f.way (omega arith) f.top (omega arith) f.within

  -- what is of a cell of its flat form is reached as well
  pub also_reached : (k x : ℕ) → is_reached d k ≡ true → HasCell (flat_of d k).cells x → (x < length d.components) × (is_reached d x ≡ true)
  also_reached k x reached h =
      let f = found k reached in
      let g = flat_cell (length d.components) f.path k f.way (omega arith) x h in
      let at = cell_number (flat_of d k).cells x h in
      (further_top d design f.ups k x at.0 f.top at.1 (g.way.there x (inl refl)) (λ i. g.way.apart.0 (inside f.path f.ups f.within g.on g.within x i))).there x (inl refl)
    where
      inside : (path ups : List ℕ) → ((y : ℕ) → In ups y → In path y) → (on : List ℕ) → ((y : ℕ) → In (k ∷ path) y → In on y) → (y : ℕ) → In (k ∷ ups) y → In on y
      inside path ups within on further_within y (inl e) = further_within y (inl e)
      inside path ups within on further_within y (inr i) = further_within y (inr (within y i))
