-- THE TREE OF THE FLAT DESIGN is the flat instance of the tree of the design.
use Rattle.std.proofs.Common.{◌≡◌, ℕ, zero, suc, ◌+◌, ◌-◌, ◌<◌, ◌≤◌, inl, inr, true, false, List, [], ◌∷◌, length, map, Option, Some, None, refl, sym, ap, ◌∙◌, subst, arith}
use Rattle.std.proofs.lemmas.List.{length-map}
use Rattle.cx_prim.specs.Table.{row_of}
use Rattle.cx_meaning.specs.Designs.{PlainKind, OfPrimitive, OfComponent, PlainCell, PlainComponent, PlainDesign, component_at}
use Rattle.cx_meaning.specs.Instances.{Instance, Node, Cells, no_cells, a_primitive, an_instance, At, Nothing, OfRow, OfInstance, part_of, cells_of, cell_at, cell_count, cells_for, tree_within, tree_of}
use Rattle.cx_text.specs.Members.{In}
use Rattle.cx_meaning.proofs.DesignsLemmas.{same_part}
use Rattle.cx_rules.specs.Ports.{cell_name}
use Rattle.cx_rules.specs.Wellformed.{IsSignature, IsDesign}
use Rattle.cx_rules.proofs.Finite.{Distinct}
use Rattle.cx_flattening.specs.Whole.{is_static}
use Rattle.cx_flattening.specs.Flattened.{Kids, kid_at, flat_part, flat_kids, kept_at, start_of, wire_at}
use Rattle.cx_flattening.specs.Embedded.{IsLike, HasWires, IsEmbedded, AreEmbedded, IsFlattened}
use Rattle.cx_flattening.specs.FlatDesign.{flat_of, leads_within, is_reached, reached_below, renumbered_cell, renumbered_part, flat_design}
use Rattle.cx_flattening.proofs.LevelSights.{kid-row, kid-static, kid-dynamic}
use Rattle.cx_flattening.proofs.CellLayout.{kind_at, at_kind, cell_for, count_for, kind_there, kind_in, block_stands, Holds, holds_kept, holds_inner, holds_wires, IsHost, wires_stand, renumbered_host}
use Rattle.cx_flattening.proofs.Reached.{itself, leads_far, leads_further, flat_there, flat_component_is, reached_apart}
use Rattle.cx_flattening.proofs.TreeLevels.{few_below, IsWay, no_way, further, levels}

zero_plus : (a : ℕ) → 0 + a ≡ a
zero_plus a = omega arith

-- CELL BY CELL
module _ (kids : Kids) (part : PlainComponent) (first : ℕ) (host : Cells) where
  abbrev EmbeddedAt : ℕ → At → Type 0
  EmbeddedAt c Nothing = Unit {0}
  EmbeddedAt c (OfRow row) = cell_at host (first + kept_at kids c) ≡ OfRow row
  EmbeddedAt c (OfInstance child) =
      (is_static child ≡ true → IsEmbedded child (first + start_of kids part c) host × HasWires (part_of child).outputs (first + wire_at kids part (flat_part child) c 0) host)
      × (is_static child ≡ false → (twin : Instance) × (cell_at host (first + kept_at kids c) ≡ OfInstance twin) × IsLike (part_of twin) (flat_part child) × IsEmbedded child 0 (cells_of twin)
      × (cell_count (cells_of twin) ≡ length (flat_part child).cells))

  here : (c : ℕ) (at : At) → EmbeddedAt (c + 0) at → EmbeddedAt c at
  here c at h = subst (λ k. EmbeddedAt k at) (let e : c + 0 ≡ c = omega arith in e) h

  next : (c e : ℕ) (at : At) → EmbeddedAt (c + suc e) at → EmbeddedAt (suc c + e) at
  next c e at h = subst (λ k. EmbeddedAt k at) (let same : c + suc e ≡ suc c + e = omega arith in same) h

  embedded_by : (cells : Cells) (c : ℕ) → ((e : ℕ) → EmbeddedAt (c + e) (cell_at cells e)) → AreEmbedded kids part cells c first host
  embedded_by no_cells c h = tt
  embedded_by (a_primitive row rest) c h = (here c (OfRow row) (h 0), embedded_by rest (suc c) (λ e. next c e (cell_at rest e) (h (suc e))))
  embedded_by (an_instance child rest) c h =
      let own = here c (OfInstance child) (h 0) in
      (own.0, own.1, embedded_by rest (suc c) (λ e. next c e (cell_at rest e) (h (suc e))))

renumbered_name : (d : PlainDesign) (cs : List PlainCell) (e : ℕ) → cell_name (map (renumbered_cell d) cs) e ≡ cell_name cs e
renumbered_name d [] e = refl
renumbered_name d (c ∷ cs) zero = refl
renumbered_name d (c ∷ cs) (suc e) = renumbered_name d cs e

outputs_are : (i : Instance) → (flat_part i).outputs ≡ (part_of i).outputs
outputs_are (Node part cells) = refl

module _ (d : PlainDesign) (design : IsDesign d) where
  abbrev pub IsThere : ℕ → Type 0
  IsThere j = (j < length d.components) × (is_reached d j ≡ true)

  -- a component that the flat main reaches over those above it, none twice
  pub record IsTop (ups : List ℕ) (k : ℕ) : Type 0 where
    pub apart : Distinct (k ∷ ups)
    pub there : (j : ℕ) → In (k ∷ ups) j → IsThere j
    pub steps : leads_within d (length ups) k d.main ≡ true

  in_map : (ks : List ℕ) (n : ℕ) → In (map (reached_below d) ks) n → (j : ℕ) × In ks j × (reached_below d j ≡ n)
  in_map [] n i = absurd i
  in_map (k ∷ ks) n (inl e) = (k, inl refl, e)
  in_map (k ∷ ks) n (inr i) = let r = in_map ks n i in (r.0, inr r.1, r.2)

  apart_map : (ks : List ℕ) → Distinct ks → ((j : ℕ) → In ks j → IsThere j) → Distinct (map (reached_below d) ks)
  apart_map [] apart there = tt
  apart_map (k ∷ ks) apart there = (
    λ i.
        let r = in_map ks (reached_below d k) i in
        let one = there r.0 (inr r.1) in
        let other = there k (inl refl) in
        apart.0 (subst (λ x. In ks x) (reached_apart d r.0 k one.0 other.0 one.1 other.1 r.2) r.1),
    apart_map ks apart.1 (λ j i. there j (inr i)),
  )

  -- as many as the flat design has components, and no more
  pub few_ups : (ups : List ℕ) (k : ℕ) → IsTop ups k → length ups < length (flat_design d).components
  few_ups ups k top =
      let all : suc (length (map (reached_below d) ups)) ≤ length (flat_design d).components =
      few_below (map (reached_below d) (k ∷ ups)) (length (flat_design d).components) (apart_map (k ∷ ups) top.apart top.there)
      (λ n i. let r = in_map (k ∷ ups) n i in let there = top.there r.0 r.1 in subst (λ x. x < length (flat_design d).components) r.2 (flat_there d r.0 there.0 there.1)) in
      let size = length-map ups (reached_below d) in
      omega (arith, all, size)

  pub further_top : (ups : List ℕ) (k j e : ℕ) → IsTop ups k → kind_at (flat_of d k).cells e ≡ Some (OfComponent j) → j < length d.components → (In (k ∷ ups) j → ⊥) → IsTop (k ∷ ups) j
  further_top ups k j e top is less fresh = record {
    apart = (fresh, top.apart);
    there = at;
    steps = steps;
  }
    where
      steps : leads_within d (suc (length ups)) j d.main ≡ true
      steps = leads_further d (length ups) d.main k j e top.steps is

      few : suc (length ups) ≤ length d.components
      few = few_below (k ∷ ups) (length d.components) top.apart (λ x i. (top.there x i).0)

      reached : is_reached d j ≡ true
      reached =
          subst (λ n. leads_within d n j d.main ≡ true) (let all : (length d.components - suc (length ups)) + suc (length ups) ≡ length d.components = (let most = few in omega (arith, most)) in all)
          (leads_far d (length d.components - suc (length ups)) (suc (length ups)) j d.main steps)

      at : (x : ℕ) → In (j ∷ k ∷ ups) x → IsThere x
      at x (inl same) = subst IsThere same (less, reached)
      at x (inr i) = top.there x i

  -- component k, a way down from main, of which a dynamic one is the last that stands for itself; trees at the cells of its flat form
  -- have n levels
  pub record IsBelow (m : ℕ) (path : List ℕ) (k n : ℕ) (ups : List ℕ) (top : ℕ) : Type 0 where
    pub way : IsWay d design path k
    pub many : length d.components ≤ m + length path
    pub is_top : IsTop ups top
    pub enough : length (flat_design d).components ≤ suc n + length ups
    pub within : (x : ℕ) → In (top ∷ ups) x → In (k ∷ path) x

  abbrev pub trees_at : ℕ → ℕ → Instance
  trees_at n j = tree_within (flat_design d) n (reached_below d j)

  abbrev pub Embeds : ℕ → Type 0
  Embeds m = (path : List ℕ) (k n : ℕ) (ups : List ℕ) (top first : ℕ) (host : Cells) → IsBelow m path k n ups top
      → Holds (flat_part (tree_within d m k)).cells first (flat_of d top).cells → IsHost host (flat_of d top).cells (trees_at n) → IsEmbedded (tree_within d m k) first host

  -- with levels enough a tree is the component with all below it
  whole : (m : ℕ) (path : List ℕ) (k : ℕ) → IsWay d design path k → length d.components ≤ m + length path → flat_part (tree_within d m k) ≡ flat_of d k
  whole m path k way many =
      ap flat_part
      (levels d design m (m + length d.components) path k way many (omega arith)
      ∙ sym (levels d design (length d.components) (m + length d.components) path k way (omega arith) (omega arith)))

  -- A COMPONENT that is not static
  pub flattened : (m : ℕ) → Embeds m → (path : List ℕ) (k n : ℕ) (ups : List ℕ) → IsWay d design path k → length d.components ≤ m + length path → IsTop ups k
      → length (flat_design d).components ≤ n + length ups → ((x : ℕ) → In ups x → In path x) → IsFlattened (tree_within d m k) (trees_at n k)
  flattened m embeds path k zero ups way many top enough within = let few = few_ups ups k top in absurd (omega (arith, few, enough))
  flattened m embeds path k (suc n) ups way many top enough within = (
    record {
      inputs = ap (λ (p : PlainComponent). p.inputs) part_is ∙ ap (λ (p : PlainComponent). p.inputs) same;
      outputs = ap (λ (p : PlainComponent). p.outputs) part_is ∙ ap (λ (p : PlainComponent). p.outputs) same;
      groups = ap (λ (p : PlainComponent). p.groups) part_is ∙ ap (λ (p : PlainComponent). p.groups) same;
      always = ap (λ (p : PlainComponent). p.always) part_is ∙ ap (λ (p : PlainComponent). p.always) same;
      control = ap (λ (p : PlainComponent). p.control) part_is ∙ ap (λ (p : PlainComponent). p.control) same;
      names = λ e. ap (λ (p : PlainComponent). cell_name p.cells e) part_is ∙ renumbered_name d (flat_of d k).cells e ∙ ap (λ (p : PlainComponent). cell_name p.cells e) same;
      count = ap (λ (p : PlainComponent). length p.cells) part_is ∙ length-map (flat_of d k).cells (renumbered_cell d) ∙ ap (λ (p : PlainComponent). length p.cells) same;
    },
    embeds path k n ups k 0 (cells_for (tree_within (flat_design d) n) (component_at (flat_design d) (reached_below d k)).cells)
        (record { way = way; many = many; is_top = top; enough = enough; within = inside })
        (λ e less. ap (kind_at (flat_of d k).cells) (zero_plus e) ∙ ap (λ (p : PlainComponent). kind_at p.cells e) same)
        (λ e. ap (λ (p : PlainComponent). cell_at (cells_for (tree_within (flat_design d) n) p.cells) e) part_is ∙ renumbered_host d (tree_within (flat_design d) n) (flat_of d k).cells e),
    count_for (tree_within (flat_design d) n) (component_at (flat_design d) (reached_below d k)).cells
        ∙ ap (λ (p : PlainComponent). length p.cells) part_is ∙ length-map (flat_of d k).cells (renumbered_cell d) ∙ ap (λ (p : PlainComponent). length p.cells) same,
  )
    where
      there : IsThere k
      there = top.there k (inl refl)

      part_is : component_at (flat_design d) (reached_below d k) ≡ renumbered_part d (flat_of d k)
      part_is = flat_component_is d k there.0 there.1

      same : flat_of d k ≡ flat_part (tree_within d m k)
      same = sym (whole m path k way many)

      inside : (x : ℕ) → In (k ∷ ups) x → In (k ∷ path) x
      inside x (inl e) = inl e
      inside x (inr i) = inr (within x i)

  -- A CELL of a component, with one level more
  module _ (m : ℕ) (embeds : Embeds m) (path : List ℕ) (k n : ℕ) (ups : List ℕ) (top first : ℕ) (host : Cells) (below : IsBelow (suc m) path k n ups top)
      (holds : Holds (flat_part (tree_within d (suc m) k)).cells first (flat_of d top).cells) (is : IsHost host (flat_of d top).cells (trees_at n)) where
    abbrev cs : List PlainCell
    cs = (component_at d k).cells

    abbrev cells : Cells
    cells = cells_for (tree_within d m) cs

    abbrev kids : Kids
    kids = flat_kids cells

    abbrev CellAt : ℕ → At → Type 0
    CellAt = EmbeddedAt kids (component_at d k) first host

    stands : (e : ℕ) (kind : Option PlainKind) → kind_at cs e ≡ kind → cell_at cells e ≡ at_kind (tree_within d m) kind
    stands e kind its = cell_for (tree_within d m) cs e ∙ ap (at_kind (tree_within d m)) its

    module _ (e j : ℕ) (its : kind_at cs e ≡ Some (OfComponent j)) where
      less : e < length cs
      less = kind_there cs e (OfComponent j) its

      below_way : IsWay d design (k ∷ path) j
      below_way = let c = kind_in cs e (OfComponent j) its in further d design path k j c.0 below.way c.1 c.2

      many : length d.components ≤ m + length (k ∷ path)
      many = let h = below.many in omega (arith, h)

      child : is_static (tree_within d m j) ≡ true
          → IsEmbedded (tree_within d m j) (first + start_of kids (component_at d k) e) host
          × HasWires (part_of (tree_within d m j)).outputs (first + wire_at kids (component_at d k) (flat_part (tree_within d m j)) e 0) host
      child static = (
        embeds (k ∷ path) j n ups top (first + start_of kids (component_at d k) e) host
            (record { way = below_way; many = many; is_top = below.is_top; enough = below.enough; within = λ x i. inr (below.within x i) })
            (holds_inner kids (component_at d k) (flat_of d top).cells first holds e (flat_part (tree_within d m j)) less kid) is,
        subst (λ os. HasWires os (first + wire_at kids (component_at d k) (flat_part (tree_within d m j)) e 0) host) (outputs_are (tree_within d m j))
            (wires_stand (block_stands kids cs e (flat_part (tree_within d m j)) less kid).0 (flat_part (tree_within d m j)).outputs (first + wire_at kids (component_at d k) (flat_part (tree_within d m j)) e 0) host
            (flat_of d top).cells (trees_at n) signed is
            (holds_wires kids (component_at d k) (flat_of d top).cells first holds e (flat_part (tree_within d m j)) less kid)),
      )
        where
          kid : kid_at kids e ≡ Some (flat_part (tree_within d m j))
          kid = kid-static cells e (tree_within d m j) (stands e (Some (OfComponent j)) its) static

          signed : IsSignature (flat_part (tree_within d m j)).outputs
          signed =
              subst IsSignature (sym (outputs_are (tree_within d m j) ∙ ap (λ (p : PlainComponent). p.outputs) (same_part d m j)))
              (design.components j (below_way.there j (inl refl))).outputs

      twin : is_static (tree_within d m j) ≡ false
          → (other : Instance) × (cell_at host (first + kept_at kids e) ≡ OfInstance other) × IsLike (part_of other) (flat_part (tree_within d m j)) × IsEmbedded (tree_within d m j) 0 (cells_of other)
          × (cell_count (cells_of other) ≡ length (flat_part (tree_within d m j)).cells)
      twin dynamic = (trees_at n j, is (first + kept_at kids e) ∙ ap (at_kind (trees_at n)) kind, made.0, made.1, made.2)
        where
          kind : kind_at (flat_of d top).cells (first + kept_at kids e) ≡ Some (OfComponent j)
          kind =
              holds_kept kids (component_at d k) (flat_of d top).cells first holds e less (kid-dynamic cells e (tree_within d m j) (stands e (Some (OfComponent j)) its) dynamic) ∙ its

          made : IsFlattened (tree_within d m j) (trees_at n j)
          made =
              flattened m embeds (k ∷ path) j n (top ∷ ups) below_way many
              (further_top ups top j (first + kept_at kids e) below.is_top kind (below_way.there j (inl refl)) (λ i. below_way.apart.0 (below.within j i)))
              (let h = below.enough in omega (arith, h)) (λ x i. below.within x i)

    at_cell : (e : ℕ) (kind : Option PlainKind) → kind_at cs e ≡ kind → CellAt e (at_kind (tree_within d m) kind)
    at_cell e None its = tt
    at_cell e (Some (OfPrimitive p)) its =
        is (first + kept_at kids e)
        ∙ ap (at_kind (trees_at n))
        (holds_kept kids (component_at d k) (flat_of d top).cells first holds e (kind_there cs e (OfPrimitive p) its) (kid-row cells e (row_of p) (stands e (Some (OfPrimitive p)) its)) ∙ its)
    at_cell e (Some (OfComponent j)) its = (child e j its, twin e j its)

    all_cells : AreEmbedded kids (component_at d k) cells 0 first host
    all_cells =
        embedded_by kids (component_at d k) first host cells 0
        (λ e. subst (λ c. CellAt c (cell_at cells e)) (sym (zero_plus e)) (subst (CellAt e) (sym (cell_for (tree_within d m) cs e)) (at_cell e (kind_at cs e) refl)))

  pub embedded : (m : ℕ) → Embeds m
  embedded zero path k n ups top first host below holds is = tt
  embedded (suc m) path k n ups top first host below holds is = all_cells m (embedded m) path k n ups top first host below holds is

  pub main_top : IsTop [] d.main
  main_top = record {
    apart = (λ i. absurd i, tt);
    there = at;
    steps = itself d 0 d.main;
  }
    where
      at : (j : ℕ) → In (d.main ∷ []) j → IsThere j
      at j (inl e) = subst IsThere e (design.main_there, itself d (length d.components) d.main)
      at j (inr i) = absurd i

  -- THE FLAT TREE
  pub flat_tree : IsFlattened (tree_of d) (tree_of (flat_design d))
  flat_tree =
      flattened (length d.components) (embedded (length d.components)) [] d.main (length (flat_design d).components) [] (no_way d design d.main design.main_there)
      (omega arith) main_top (omega arith) (λ x i. absurd i)
