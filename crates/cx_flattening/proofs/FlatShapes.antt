-- STATIC GROUPS of a flat component take a cycle at least and drive no done, where those of the tree do.
use Rattle.std.proofs.Common.{◌≡◌, ℕ, zero, suc, ◌<◌, inl, inr, ⊎_elim, true, false, ◌||◌, nat_eq, List, [], ◌∷◌, length, map, Option, Some, None, refl, sym, ap, ◌∙◌, subst}
use Rattle.std.specs.Prelude.{flat_map}
use Rattle.std.proofs.lemmas.Bool.{cases_lt, false_from_ne_true}
use Rattle.std.proofs.lemmas.List.{get_or_past}
use Rattle.cx_text.proofs.MemberLaws.{image_in, in_either, number_in}
use Rattle.cx_text.specs.declared.places.Place.{Place}
use Rattle.cx_text.specs.declared.rules.Rule.TheVariants as rules
use Rattle.cx_text.proofs.BoolLaws.{or_left, or_right}
use Rattle.cx_meaning.specs.declared.ports.PortRef.{PortRef}
use Rattle.cx_meaning.specs.declared.ports.PortRef.TheVariants as ports
use Rattle.cx_meaning.specs.Designs.{PlainKind, OfPrimitive, OfComponent, PlainCell, PlainAssign, PlainGroup, PlainInvoke, PlainComponent, PlainDesign, component_at, no_component, group_at}
use Rattle.cx_meaning.specs.Instances.{Instance, Node, Cells, no_cells, a_primitive, an_instance, OfInstance, part_of, cell_at, add_cell, cells_for, tree_within}
use Rattle.cx_meaning.specs.Active.{Owned, source_order}
use Rattle.cx_meaning.specs.Control.{groups_of}
use Rattle.cx_meaning.specs.Islands.{kind_length}
use Rattle.cx_text.specs.Members.{In}
use Rattle.cx_meaning.proofs.DesignsLemmas.{same_part}
use Rattle.cx_rules.specs.Accepted.{IsAccepted}
use Rattle.cx_rules.specs.Ports.{component_of, path_of, is_source_only}
use Rattle.cx_rules.specs.ShapeRules.{is_hole, some_target, GroupBreaksStaticShape}
use Rattle.cx_rules.specs.Spots.{AnAssign, AGroup, Spot, OnGroup}
use Rattle.cx_rules.specs.Wellformed.{IsDesign}
use Rattle.cx_rewrites.specs.Moving.{moved_assign, moved_group}
use Rattle.cx_flattening.specs.Copies.{copied_group, enabled_groups}
use Rattle.cx_flattening.specs.Flattened.{Kids, kid_at, port_if, own_port, child_port, invoke_port, copies_if, copies, flat_kids, flat_part}
use Rattle.cx_flattening.specs.FlatDesign.{flat_design}
use Rattle.cx_flattening.proofs.FlatKeeps.{enabled_in, copied_from}
use Rattle.cx_flattening.proofs.FlatNumbers.{IsMade, made}
use Rattle.cx_flattening.proofs.FlatRanges.{in_number}
use Rattle.cx_flattening.proofs.FlatSafe.{kid_from}
use Rattle.cx_flattening.proofs.FlatKinds.{in_groups}
use Rattle.cx_flattening.proofs.Ruled.{in_order}

-- no hole, and no input
abbrev NoHole : PortRef → Type 0
NoHole (ports.Cell c p) = Unit {0}
NoHole (ports.Input n) = ⊥
NoHole (ports.Output n) = Unit {0}
NoHole (ports.Done g) = ⊥
NoHole (ports.Literal w v) = Unit {0}

abbrev Shaped : PlainGroup → Type 0
Shaped x = (n : ℕ) → kind_length x.kind ≡ Some n → (nat_eq n 0 ≡ false) × ((a : PlainAssign) → In x.assigns a → NoHole a.target)

own_no_hole : (kids : Kids) (part : PlainComponent) (q : PortRef) → NoHole q → NoHole (own_port kids part q)
own_no_hole kids part (ports.Cell c p) h = by (kid_at kids c)
  where
    by : (k : Option PlainComponent) → NoHole (port_if kids part k c p)
    by None = tt
    by (Some kid) = tt
own_no_hole kids part (ports.Input n) h = absurd h
own_no_hole kids part (ports.Output n) h = tt
own_no_hole kids part (ports.Done g) h = absurd h
own_no_hole kids part (ports.Literal w v) h = tt

child_no_hole : (kids : Kids) (part child : PlainComponent) (c : ℕ) (sources : ℕ → PortRef) (q : PortRef) → NoHole q → NoHole (child_port kids part child c sources q)
child_no_hole kids part child c sources (ports.Cell e p) h = tt
child_no_hole kids part child c sources (ports.Input n) h = absurd h
child_no_hole kids part child c sources (ports.Output n) h = tt
child_no_hole kids part child c sources (ports.Done g) h = absurd h
child_no_hole kids part child c sources (ports.Literal w v) h = tt

-- of a group that is moved
moved_no_hole : (f : PortRef → PortRef) → ((q : PortRef) → NoHole q → NoHole (f q)) → (list : List PlainAssign) → ((a : PlainAssign) → In list a → NoHole a.target) → (a : PlainAssign) → In (map (moved_assign f) list) a → NoHole a.target
moved_no_hole f moves list each a i = let r = image_in (moved_assign f) list a i in subst (λ (x : PlainAssign). NoHole x.target) r.2 (moves r.0.target (each r.0 r.1))

abbrev AllIn : PlainComponent → Type 0
AllIn part = (x : PlainGroup) → In part.groups x → Shaped x

abbrev mutual
  AllShaped : Instance → Type 0
  AllShaped (Node part cells) = AllIn part × ShapedBelow cells

  ShapedBelow : Cells → Type 0
  ShapedBelow no_cells = Unit {0}
  ShapedBelow (a_primitive row rest) = ShapedBelow rest
  ShapedBelow (an_instance child rest) = AllShaped child × ShapedBelow rest

copies_shaped : (kids : Kids) (part : PlainComponent) (v : PlainInvoke) (k : Option PlainComponent) → ((kid : PlainComponent) → k ≡ Some kid → AllIn kid) → (x : PlainGroup) → In (copies_if kids part k v) x → Shaped x
copies_shaped kids part v None each x i = absurd i
copies_shaped kids part v (Some kid) each x i =
    let r = image_in (copied_group (invoke_port kids part kid v)) (enabled_groups (groups_of kid.control) 0 kid.groups) x i in
    subst Shaped r.2
    (λ n e.
    let h = each kid refl r.0 (enabled_in (groups_of kid.control) 0 kid.groups r.0 r.1) n e in
    (h.0, moved_no_hole (invoke_port kids part kid v) (child_no_hole kids part kid v.cell _) r.0.assigns h.1))

node_shaped : (part : PlainComponent) (cells : Cells) → AllIn part → ((c : ℕ) (kid : PlainComponent) → kid_at (flat_kids cells) c ≡ Some kid → AllIn kid) → AllIn (flat_part (Node part cells))
node_shaped part cells own below x i =
    ⊎_elim
    (λ j.
    let r = image_in (moved_group (own_port (flat_kids cells) part)) part.groups x j in
    subst Shaped r.2 (λ n e. let h = own r.0 r.1 n e in (h.0, moved_no_hole (own_port (flat_kids cells) part) (own_no_hole (flat_kids cells) part) r.0.assigns h.1)))
    (λ j. let r = copied_from (flat_kids cells) part part.invokes x j in copies_shaped (flat_kids cells) part r.0 (kid_at (flat_kids cells) r.0.cell) (λ kid e. below r.0.cell kid e) x r.1)
    (in_either (map (moved_group (own_port (flat_kids cells) part)) part.groups) (flat_map (copies (flat_kids cells) part) part.invokes) x i)

mutual
  flat_shaped : (i : Instance) → AllShaped i → AllIn (flat_part i)
  flat_shaped (Node part cells) h = node_shaped part cells h.0 (λ c kid its. let r = kid_from cells c kid its in subst AllIn r.3 (shaped_below cells h.1 c r.0 r.1))

  shaped_below : (cells : Cells) → ShapedBelow cells → (c : ℕ) (child : Instance) → cell_at cells c ≡ OfInstance child → AllIn (flat_part child)
  shaped_below no_cells h c child at = absurd (cc)
  shaped_below (a_primitive row rest) h zero child at = absurd (cc)
  shaped_below (a_primitive row rest) h (suc c) child at = shaped_below rest h c child at
  shaped_below (an_instance other rest) h zero child at = let same : other ≡ child = cc in subst (λ x. AllIn (flat_part x)) same (flat_shaped other h.0)
  shaped_below (an_instance other rest) h (suc c) child at = shaped_below rest h.1 c child at

-- trees of a design
shaped_kind : (trees : ℕ → Instance) (kind : PlainKind) (rest : Cells) → ((k : ℕ) → AllShaped (trees k)) → ShapedBelow rest → ShapedBelow (add_cell trees kind rest)
shaped_kind trees (OfPrimitive p) rest each h = h
shaped_kind trees (OfComponent k) rest each h = (each k, h)

shaped_cells : (trees : ℕ → Instance) (cs : List PlainCell) → ((k : ℕ) → AllShaped (trees k)) → ShapedBelow (cells_for trees cs)
shaped_cells trees [] each = tt
shaped_cells trees (c ∷ cs) each = shaped_kind trees c.kind (cells_for trees cs) each (shaped_cells trees cs each)

shaped_within : (d : PlainDesign) → ((k : ℕ) → AllIn (component_at d k)) → (n k : ℕ) → AllShaped (tree_within d n k)
shaped_within d each zero k = (each k, tt)
shaped_within d each (suc n) k = (each k, shaped_cells (tree_within d n) (component_at d k).cells (shaped_within d each n))

-- from the rules, and back
no_hole_is : (i : Instance) (q : PortRef) → is_hole q ≡ false → is_source_only i q ≡ false → NoHole q
no_hole_is i (ports.Cell c p) e f = tt
no_hole_is i (ports.Input n) e f = absurd (let clash : true ≡ false = f in cc)
no_hole_is i (ports.Output n) e f = tt
no_hole_is i (ports.Done g) e f = absurd (let clash : true ≡ false = e in cc)
no_hole_is i (ports.Literal w v) e f = tt

is_no_hole : (q : PortRef) → NoHole q → is_hole q ≡ false
is_no_hole (ports.Cell c p) h = refl
is_no_hole (ports.Input n) h = absurd h
is_no_hole (ports.Output n) h = refl
is_no_hole (ports.Done g) h = absurd h
is_no_hole (ports.Literal w v) h = refl

none_hole : (list : List PlainAssign) → ((a : PlainAssign) → In list a → NoHole a.target) → some_target is_hole list ≡ false
none_hole [] h = refl
none_hole (a ∷ rest) h = ap (λ b. b || some_target is_hole rest) (is_no_hole a.target (h a (inl refl))) ∙ none_hole rest (λ b i. h b (inr i))

hole_among : (list : List PlainAssign) (a : PlainAssign) → In list a → is_hole a.target ≡ true → some_target is_hole list ≡ true
hole_among [] a i e = absurd i
hole_among (x ∷ xs) a (inl same) e = or_left (is_hole x.target) (some_target is_hole xs) (ap (λ (y : PlainAssign). is_hole y.target) same ∙ e)
hole_among (x ∷ xs) a (inr i) e = or_right (is_hole x.target) (some_target is_hole xs) (hole_among xs a i e)

module _ (d : PlainDesign) (accepted : IsAccepted d) where
  group_shaped : (k : ℕ) → k < length d.components → AllIn (component_at d k)
  group_shaped k within x i n e = (
    false_from_ne_true (nat_eq n 0) (λ f. broken (or_right (some_target is_hole x.assigns) (nat_eq n 0) f)),
    λ a j. no_hole_is (component_of d k) a.target (false_from_ne_true (is_hole a.target) (λ f. broken (or_left (some_target is_hole x.assigns) (nat_eq n 0) (hole_among x.assigns a j f)))) (false_from_ne_true (is_source_only (component_of d k) a.target) (source a j)),
  )
    where
      g : (g : ℕ) × (g < length (component_at d k).groups) × (group_at (component_at d k) g ≡ x)
      g = in_number (component_at d k).groups x i

      same : group_at (part_of (component_of d k)) g.0 ≡ x
      same = ap (λ p. group_at p g.0) (same_part d (length d.components) k) ∙ g.2

      broken : (some_target is_hole x.assigns || nat_eq n 0) ≡ true → ⊥
      broken f =
          accepted.shapes rules.StaticShape (record { component = k; part = AGroup g.0 }) (group_at (part_of (component_of d k)) g.0).place (group_at (part_of (component_of d k)) g.0).name refl
          (inl (record {
            within = within;
            number = g.0;
            is = refl;
            stands = g.1;
            breaks = (n, ap (λ (y : PlainGroup). kind_length y.kind) same ∙ e, ap (λ (y : PlainGroup). some_target is_hole y.assigns || nat_eq n 0) same ∙ f, (refl, refl));
          }))

      source : (a : PlainAssign) → In x.assigns a → is_source_only (component_of d k) a.target ≡ true → ⊥
      source a j f =
          let o : Owned = record { owner = Some g.0; assign = a } in
          let at = number_in (source_order (component_at d k)) o (in_order (component_at d k) (Some g.0) a (g.1, subst (λ (y : PlainGroup). In y.assigns a) (sym g.2) j)) in
          accepted.widths rules.NotATarget (record { component = k; part = AnAssign at.0 }) a.place (path_of (component_of d k) a.target) refl
          (inl (record { within = within; number = at.0; is = refl; assign = o; stands = at.1; breaks = (f, (refl, refl)) }))

  all_shaped : (k : ℕ) → AllIn (component_at d k)
  all_shaped k = ⊎_elim (group_shaped k) (λ h. subst AllIn (sym (get_or_past d.components k no_component h)) (λ x i. absurd i)) (cases_lt k (length d.components))

module _ (d : PlainDesign) (design : IsDesign d) (accepted : IsAccepted d) where
  -- RULE static-shape, of groups
  pub keeps_shapes : (spot : Spot) (place : Place) (name : List ℕ) → OnGroup GroupBreaksStaticShape (flat_design d) spot place name → ⊥
  keeps_shapes spot place name b =
      let h = flat_shaped (component_of d m.old) (shaped_within d (all_shaped d accepted) (length d.components) m.old) (group_at (flat_part (component_of d m.old)) b.number)
      (in_groups (flat_part (component_of d m.old)).groups b.number (subst (λ (p : PlainComponent). b.number < length p.groups) m.part b.stands)) bad.0 (sym (ap (λ (x : PlainGroup). kind_length x.kind) same) ∙ bad.1) in
      let clash : true ≡ false =
      sym bad.2 ∙ ap (λ (x : PlainGroup). some_target is_hole x.assigns || nat_eq bad.0 0) same ∙ ap (λ t. t || nat_eq bad.0 0) (none_hole (group_at (flat_part (component_of d m.old)) b.number).assigns h.1) ∙ h.0 in
      absurd (cc)
    where
      m : IsMade d spot.component
      m = made d design spot.component b.within

      bad : GroupBreaksStaticShape (component_of (flat_design d) spot.component) b.number place name
      bad = b.breaks

      same : group_at (part_of (component_of (flat_design d) spot.component)) b.number ≡ group_at (flat_part (component_of d m.old)) b.number
      same = ap (λ p. group_at p b.number) (same_part (flat_design d) (length (flat_design d).components) spot.component ∙ m.part)
