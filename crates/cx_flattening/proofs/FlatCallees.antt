-- WHICH ASSIGNMENTS of a flat component drive ports of component cells: those of plain groups alone, where it is so in the tree.
use Rattle.std.proofs.Common.{◌≡◌, ℕ, zero, suc, ◌+◌, ◌<◌, ◌≤◌, ◌⊎◌, inl, inr, ⊎_elim, Bool, true, false, List, [], ◌∷◌, length, map, Option, Some, None, refl, sym, ap, ◌∙◌, subst, arith}
use Rattle.std.specs.Prelude.{flat_map}
use Rattle.std.proofs.lemmas.Bool.{cases_lt}
use Rattle.std.proofs.lemmas.List.{get_or_past, length-map}
use Rattle.cx_text.proofs.MemberLaws.{image_in, in_either, number_in}
use Rattle.cx_text.specs.declared.rules.Rule.TheVariants as rules
use Rattle.cx_meaning.specs.declared.ports.PortRef.{PortRef}
use Rattle.cx_meaning.specs.declared.ports.PortRef.TheVariants as ports
use Rattle.cx_meaning.specs.declared.kinds.PortDecl.{PortDecl}
use Rattle.cx_meaning.specs.Designs.{PlainKind, OfPrimitive, OfComponent, PlainCell, PlainAssign, PlainGroup, PlainInvoke, PlainComponent, PlainDesign, component_at, no_component, group_at}
use Rattle.cx_meaning.specs.Instances.{Instance, Node, Cells, no_cells, a_primitive, an_instance, OfInstance, part_of, cells_of, cell_at, add_cell, cells_for, tree_within}
use Rattle.cx_meaning.specs.Active.{Owned, source_order}
use Rattle.cx_meaning.specs.Control.{groups_of}
use Rattle.cx_text.specs.Members.{In}
use Rattle.cx_meaning.proofs.DesignsLemmas.{same_part}
use Rattle.cx_rules.specs.Accepted.{IsAccepted}
use Rattle.cx_rules.specs.Counts.{is_one_of, group_if}
use Rattle.cx_rules.specs.Items.{is_plain}
use Rattle.cx_rules.specs.Ports.{component_of, path_of, is_instance, is_part_port}
use Rattle.cx_rules.specs.Spots.{AnAssign}
use Rattle.cx_rules.specs.Wellformed.{StandsIn}
use Rattle.cx_rewrites.specs.Moving.{moved_assign, moved_group}
use Rattle.cx_flattening.specs.Copies.{copied_group, enabled_groups}
use Rattle.cx_flattening.specs.Flattened.{Kids, kid_at, wire_of, flat_cells, start_of, own_port, child_port, invoke_port, always_from, copies_if, copies, flat_kids, flat_part}
use Rattle.cx_flattening.specs.Targets.{OwnTarget, BlockTarget, AllUsed}
use Rattle.cx_flattening.specs.Fair.{AllFair, AllFairBelow}
use Rattle.cx_flattening.proofs.CellLayout.{kind_at, at_kind, cell_for, kept_stands, block_stands, holds_inner, holds_wires}
use Rattle.cx_flattening.proofs.PortLemmas.{own-kept}
use Rattle.cx_flattening.proofs.FlatBlocks.{IsAlways, kid_always, kid_there}
use Rattle.cx_flattening.proofs.FlatSafe.{kid_from}
use Rattle.cx_flattening.proofs.FlatKeeps.{copied_from}
use Rattle.cx_flattening.proofs.FlatRanges.{in_number}
use Rattle.cx_flattening.proofs.Ruled.{in_order}

-- a port of no component cell
abbrev pub NoCallee : List PlainCell → PortRef → Type 0
NoCallee cs (ports.Cell c p) = (x : ℕ) → kind_at cs c ≡ Some (OfComponent x) → ⊥
NoCallee cs (ports.Input n) = Unit {0}
NoCallee cs (ports.Output n) = Unit {0}
NoCallee cs (ports.Done g) = Unit {0}
NoCallee cs (ports.Literal w v) = Unit {0}

-- PLAIN GROUPS ALONE drive ports of component cells
pub record PlainCall (part : PlainComponent) : Type 0 where
  pub always : (a : PlainAssign) → In part.always a → NoCallee part.cells a.target
  pub groups : (x : PlainGroup) (a : PlainAssign) → In part.groups x → is_plain x.kind ≡ false → In x.assigns a → NoCallee part.cells a.target

abbrev mutual
  AllPlain : Instance → Type 0
  AllPlain (Node part cells) = PlainCall part × PlainBelow cells

  PlainBelow : Cells → Type 0
  PlainBelow no_cells = Unit {0}
  PlainBelow (a_primitive row rest) = PlainBelow rest
  PlainBelow (an_instance child rest) = AllPlain child × PlainBelow rest

zero_plus : (a : ℕ) → 0 + a ≡ a
zero_plus a = omega arith

-- a wire is no component's
wire_primitive : (c : PlainCell) (outputs : List PortDecl) (n x : ℕ) → kind_at (map (wire_of c) outputs) n ≡ Some (OfComponent x) → ⊥
wire_primitive c [] n x e = cc
wire_primitive c (o ∷ os) zero x e = cc
wire_primitive c (o ∷ os) (suc n) x e = wire_primitive c os n x e

-- a group of a list, whose assignments have a property
abbrev HasAll : (PlainAssign → Type 0) → PlainGroup → List PlainGroup → Type 0
HasAll P x list = In list x × ((a : PlainAssign) → In x.assigns a → P a)

used_in : (P : PlainAssign → Type 0) (used : List ℕ) (g : ℕ) (xs : List PlainGroup) → AllUsed P used g xs → (x : PlainGroup) → In (enabled_groups used g xs) x → HasAll P x xs
used_in P used g [] all x i = absurd i
used_in P used g (y ∷ ys) all x i = by (is_one_of g used) refl i (λ j. used_in P used (suc g) ys all.1 x j)
  where
    on : HasAll P x ys → HasAll P x (y ∷ ys)
    on r = (inr r.0, r.1)

    by : (b : Bool) → is_one_of g used ≡ b → In (group_if b y (enabled_groups used (suc g) ys)) x → (In (enabled_groups used (suc g) ys) x → HasAll P x ys) → HasAll P x (y ∷ ys)
    by true is (inl e) later = (inl e, subst (λ (z : PlainGroup). (a : PlainAssign) → In z.assigns a → P a) e (all.0 is))
    by true is (inr j) later = on (later j)
    by false is j later = on (later j)

module _ (part : PlainComponent) (cells : Cells) (fair : AllFair (Node part cells)) (plain : PlainCall part) (below : (c : ℕ) (kid : PlainComponent) → kid_at (flat_kids cells) c ≡ Some kid → PlainCall kid) where
  abbrev kids : Kids
  kids = flat_kids cells

  abbrev all : List PlainCell
  all = flat_cells kids part.cells

  own_callee : (q : PortRef) → OwnTarget kids part q → NoCallee part.cells q → NoCallee all (own_port kids part q)
  own_callee (ports.Cell c p) own none = subst (NoCallee all) (sym (own-kept kids part c p own.1)) (λ x e. none x (sym (kept_stands kids part.cells c own.0 own.1) ∙ e))
  own_callee (ports.Input n) own none = absurd own
  own_callee (ports.Output n) own none = tt
  own_callee (ports.Done g) own none = tt
  own_callee (ports.Literal w v) own none = absurd own

  kid_inside : (c : ℕ) (kid : PlainComponent) → kid_at kids c ≡ Some kid → c < length part.cells
  kid_inside c kid its = fair.0.within c (kid_there cells c kid its)

  whole : (e : ℕ) → e < length all → kind_at all (0 + e) ≡ kind_at all e
  whole e less = ap (kind_at all) (zero_plus e)

  child_callee : (c : ℕ) (kid : PlainComponent) → kid_at kids c ≡ Some kid → (sources : ℕ → PortRef) (q : PortRef) → BlockTarget kid q → NoCallee kid.cells q → NoCallee all (child_port kids part kid c sources q)
  child_callee c kid its sources (ports.Cell e p) inside none = λ x is.
      none x (sym (holds_inner kids part all 0 whole c kid (kid_inside c kid its) its e inside) ∙ ap (λ k. kind_at all (k + e)) (zero_plus (start_of kids part c)) ∙ is)
  child_callee c kid its sources (ports.Input n) inside none = absurd inside
  child_callee c kid its sources (ports.Output n) inside none = λ x is.
      let w = wire_of (block_stands kids part.cells c kid (kid_inside c kid its) its).0 in
      let size = length-map kid.outputs w in
      wire_primitive (block_stands kids part.cells c kid (kid_inside c kid its) its).0 kid.outputs n x
      (sym (holds_wires kids part all 0 whole c kid (kid_inside c kid its) its n (omega (arith, inside, size)))
      ∙ ap (kind_at all) (place (start_of kids part c) (length kid.cells) n) ∙ is)
    where
      place : (a b m : ℕ) → 0 + (a + b + 0) + m ≡ a + b + m
      place a b m = omega arith
  child_callee c kid its sources (ports.Done g) inside none = absurd inside
  child_callee c kid its sources (ports.Literal w v) inside none = absurd inside

  of_kid : (a : PlainAssign) → IsAlways kids part 0 kids a → NoCallee all a.target
  of_kid a h =
      subst (λ (x : PlainAssign). NoCallee all x.target) h.is
      (subst (λ c. NoCallee all (child_port kids part h.child c (λ n. ports.Input n) h.assign.target)) (sym (zero_plus h.cell))
      (child_callee h.cell h.child h.its (λ n. ports.Input n) h.assign.target ((fair.0.targets.blocks h.cell h.child h.its).always h.assign h.among) ((below h.cell h.child h.its).always h.assign h.among)))

  always_plain : (a : PlainAssign) → In (flat_part (Node part cells)).always a → NoCallee all a.target
  always_plain a i =
      ⊎_elim
      (λ j. let r = image_in (moved_assign (own_port kids part)) part.always a j in
      subst (λ (x : PlainAssign). NoCallee all x.target) r.2 (own_callee r.0.target (fair.0.targets.always r.0 r.1) (plain.always r.0 r.1)))
      (λ j. of_kid a (kid_always kids part 0 kids a j))
      (in_either (map (moved_assign (own_port kids part)) part.always) (always_from kids part 0 kids) a i)

  copies_plain : (v : PlainInvoke) (k : Option PlainComponent) → kid_at kids v.cell ≡ k → (x : PlainGroup) (a : PlainAssign) → In (copies_if kids part k v) x → is_plain x.kind ≡ false → In x.assigns a → NoCallee all a.target
  copies_plain v None its x a i kind j = absurd i
  copies_plain v (Some kid) its x a i kind j =
      let move = invoke_port kids part kid v in
      let r = image_in (copied_group move) (enabled_groups (groups_of kid.control) 0 kid.groups) x i in
      let u = used_in (λ b. BlockTarget kid b.target) (groups_of kid.control) 0 kid.groups (fair.0.targets.blocks v.cell kid its).used r.0 r.1 in
      let s = image_in (moved_assign move) r.0.assigns a (subst (λ (y : PlainGroup). In y.assigns a) (sym r.2) j) in
      subst (λ (b : PlainAssign). NoCallee all b.target) s.2
      (child_callee v.cell kid its _ s.0.target (u.1 s.0 s.1) ((below v.cell kid its).groups r.0 s.0 u.0 (ap (λ (y : PlainGroup). is_plain y.kind) r.2 ∙ kind) s.1))

  groups_plain : (x : PlainGroup) (a : PlainAssign) → In (flat_part (Node part cells)).groups x → is_plain x.kind ≡ false → In x.assigns a → NoCallee all a.target
  groups_plain x a i kind j =
      ⊎_elim
      (λ l.
      let r = image_in (moved_group (own_port kids part)) part.groups x l in
      let s = image_in (moved_assign (own_port kids part)) r.0.assigns a (subst (λ (y : PlainGroup). In y.assigns a) (sym r.2) j) in
      subst (λ (b : PlainAssign). NoCallee all b.target) s.2
      (own_callee s.0.target (fair.0.targets.groups r.0 s.0 r.1 s.1) (plain.groups r.0 s.0 r.1 (ap (λ (y : PlainGroup). is_plain y.kind) r.2 ∙ kind) s.1)))
      (λ l. let r = copied_from kids part part.invokes x l in copies_plain r.0 (kid_at kids r.0.cell) refl x a r.1 kind j)
      (in_either (map (moved_group (own_port kids part)) part.groups) (flat_map (copies kids part) part.invokes) x i)

  node_plain : PlainCall (flat_part (Node part cells))
  node_plain = record { always = always_plain; groups = groups_plain }

mutual
  -- THE FLAT COMPONENT
  flat_plain : (i : Instance) → AllFair i → AllPlain i → PlainCall (flat_part i)
  flat_plain (Node part cells) fair h = node_plain part cells fair h.0 (λ c kid its. let r = kid_from cells c kid its in subst PlainCall r.3 (plain_below cells fair.1 h.1 c r.0 r.1))

  plain_below : (cells : Cells) → AllFairBelow cells → PlainBelow cells → (c : ℕ) (child : Instance) → cell_at cells c ≡ OfInstance child → PlainCall (flat_part child)
  plain_below no_cells fair h c child at = absurd (cc)
  plain_below (a_primitive row rest) fair h zero child at = absurd (cc)
  plain_below (a_primitive row rest) fair h (suc c) child at = plain_below rest fair h c child at
  plain_below (an_instance other rest) fair h zero child at = let same : other ≡ child = cc in subst (λ x. PlainCall (flat_part x)) same (flat_plain other fair.0 h.0)
  plain_below (an_instance other rest) fair h (suc c) child at = plain_below rest fair.1 h.1 c child at

-- trees of a design
plain_kind : (trees : ℕ → Instance) (kind : PlainKind) (rest : Cells) → ((k : ℕ) → AllPlain (trees k)) → PlainBelow rest → PlainBelow (add_cell trees kind rest)
plain_kind trees (OfPrimitive p) rest each h = h
plain_kind trees (OfComponent k) rest each h = (each k, h)

plain_cells : (trees : ℕ → Instance) (cs : List PlainCell) → ((k : ℕ) → AllPlain (trees k)) → PlainBelow (cells_for trees cs)
plain_cells trees [] each = tt
plain_cells trees (c ∷ cs) each = plain_kind trees c.kind (cells_for trees cs) each (plain_cells trees cs each)

plain_within : (d : PlainDesign) → ((k : ℕ) → PlainCall (component_at d k)) → (n k : ℕ) → AllPlain (tree_within d n k)
plain_within d each zero k = (each k, tt)
plain_within d each (suc n) k = (each k, plain_cells (tree_within d n) (component_at d k).cells (plain_within d each n))

-- what stands at the cells of a tree
abbrev pub AtKinds : Instance → List PlainCell → Type 0
AtKinds i cs = (trees : ℕ → Instance) × ((e : ℕ) → cell_at (cells_of i) e ≡ at_kind trees (kind_at cs e))

pub tree_kinds : (d : PlainDesign) (n k : ℕ) → 0 < n → AtKinds (tree_within d n k) (component_at d k).cells
tree_kinds d zero k some = absurd (omega (arith, some))
tree_kinds d (suc n) k some = (tree_within d n, cell_for (tree_within d n) (component_at d k).cells)

-- a component's cell is one of an instance, and the other way about
pub callee_part : (i : Instance) (cs : List PlainCell) → AtKinds i cs → (q : PortRef) → (is_part_port i q ≡ true → ⊥) → NoCallee cs q
callee_part i cs kinds (ports.Cell c p) none = λ x is. none (ap is_instance (kinds.1 c ∙ ap (at_kind kinds.0) is))
callee_part i cs kinds (ports.Input n) none = tt
callee_part i cs kinds (ports.Output n) none = tt
callee_part i cs kinds (ports.Done g) none = tt
callee_part i cs kinds (ports.Literal w v) none = tt

pub part_callee : (i : Instance) (cs : List PlainCell) → AtKinds i cs → (q : PortRef) → NoCallee cs q → is_part_port i q ≡ true → ⊥
part_callee i cs kinds (ports.Cell c p) none is = by (kind_at cs c) refl (sym (ap is_instance (kinds.1 c)) ∙ is)
  where
    by : (k : Option PlainKind) → kind_at cs c ≡ k → is_instance (at_kind kinds.0 k) ≡ true → ⊥
    by None e f = cc
    by (Some (OfPrimitive primitive)) e f = cc
    by (Some (OfComponent x)) e f = none x e
part_callee i cs kinds (ports.Input n) none is = cc
part_callee i cs kinds (ports.Output n) none is = cc
part_callee i cs kinds (ports.Done g) none is = cc
part_callee i cs kinds (ports.Literal w v) none is = cc

module _ (d : PlainDesign) (accepted : IsAccepted d) where
  module _ (k : ℕ) (within : k < length d.components) where
    -- what is driven from outside a plain group
    outside : (owner : Option ℕ) (a : PlainAssign) → StandsIn (component_at d k) owner a
        → ((owner ≡ None) ⊎ ((g : ℕ) × (owner ≡ Some g) × (is_plain (group_at (part_of (component_of d k)) g).kind ≡ false))) → NoCallee (component_at d k).cells a.target
    outside owner a s other =
        callee_part (component_of d k) (component_at d k).cells (tree_kinds d (length d.components) k (omega (arith, within))) a.target
        (λ part.
        let o : Owned = record { owner = owner; assign = a } in
        let n = number_in (source_order (component_at d k)) o (in_order (component_at d k) owner a s) in
        accepted.shapes rules.CallShape (record { component = k; part = AnAssign n.0 }) a.place (path_of (component_of d k) a.target) refl
        (inl (record { within = within; number = n.0; is = refl; assign = o; stands = n.1; breaks = (inl (part, other), (refl, refl)) })))

    component_plain : PlainCall (component_at d k)
    component_plain = record {
      always = λ a i. outside None a i (inl refl);
      groups = λ x a i kind j.
          let g = in_number (component_at d k).groups x i in
          outside (Some g.0) a (g.1, subst (λ (y : PlainGroup). In y.assigns a) (sym g.2) j)
          (inr (g.0, refl, ap (λ p. is_plain (group_at p g.0).kind) (same_part d (length d.components) k) ∙ ap (λ (y : PlainGroup). is_plain y.kind) g.2 ∙ kind));
    }

  all_plain : (k : ℕ) → PlainCall (component_at d k)
  all_plain k =
      ⊎_elim component_plain_at (λ (h : length d.components ≤ k). subst PlainCall (sym (get_or_past d.components k no_component h)) (record { always = λ a i. absurd i; groups = λ x a i kind j. absurd i })) (cases_lt k (length d.components))
    where
      component_plain_at : k < length d.components → PlainCall (component_at d k)
      component_plain_at less = component_plain k less

  -- IN THE FLAT COMPONENT OF EACH COMPONENT
  pub plain_calls : (k : ℕ) → AllFair (component_of d k) → PlainCall (flat_part (component_of d k))
  plain_calls k fair = flat_plain (component_of d k) fair (plain_within d all_plain (length d.components) k)
