-- The targets of a promoted tree are targets of the old one.
use Rattle.std.proofs.Common.{◌≡◌, ℕ, suc, ◌⊎◌, inl, inr, Bool, true, false, List, [], ◌∷◌, map, flat_map, Option, Some, None, refl, subst, if◌then◌else◌}
use Rattle.cx_text.proofs.MemberLaws.{image_in, in_either, in_image, in_left, in_right}
use Rattle.cx_ast.specs.declared.operands.OperandForm.{OperandForm}
use Rattle.cx_ast.specs.PlainTree.{PlainTree, PlainComponent, PlainGroup, PlainAssign, PlainWire, Group, Assign}
use Rattle.cx_meaning.specs.Instances.{Instance}
use Rattle.cx_text.specs.Members.{In}
use Rattle.cx_numbering.specs.Names.{always_in, groups_in}
use Rattle.cx_numbering.specs.NameRules.{Standing, standing}
use Rattle.cx_names.specs.Targets.{is_literal, HasTargets}
use Rattle.cx_rules.specs.Ports.{component_of}
use Rattle.cx_numbering.specs.DesignOf.{design_of}
use Rattle.cx_promotion.specs.Rewriting.{is_hole_item, bare_enable, promote_assigns, promote_group, promote_wire, promote_component, enables, length_of, components_from, made_tree}
use Rattle.cx_names.proofs.TargetLemmas.{HasTarget}

abbrev AllTargets : List PlainAssign → Type 0
AllTargets assigns = (a : PlainAssign) → In assigns a → HasTarget a

-- the assignments of wires have targets
abbrev WireTargets : PlainWire → Type 0
WireTargets (Group g) = AllTargets g.assigns
WireTargets (Assign a) = HasTarget a

abbrev WiresTargets : List PlainWire → Type 0
WiresTargets [] = Unit {0}
WiresTargets (w ∷ ws) = WireTargets w × WiresTargets ws

bare_target : (test : OperandForm → Bool) (a : PlainAssign) (b : Bool) → HasTarget a → HasTarget (if b then record a { guard = None } else a)
bare_target test a true h = h
bare_target test a false h = h

promoted_targets : (test : OperandForm → Bool) (assigns : List PlainAssign) → AllTargets assigns → AllTargets (promote_assigns test assigns)
promoted_targets test [] all a here = absurd here
promoted_targets test (x ∷ rest) all a here = by (is_hole_item x.target.form) here (promoted_targets test rest (λ y there. all y (inr there)))
  where
    by : (hole : Bool) → In (if hole then promote_assigns test rest else bare_enable test x ∷ promote_assigns test rest) a → AllTargets (promote_assigns test rest) → HasTarget a
    by true there after = after a there
    by false (inl e) after = subst HasTarget e (bare_target test x (test x.target.form) (all x (inl refl)))
    by false (inr there) after = after a there

group_targets : (test : OperandForm → Bool) (length : Option ℕ) (g : PlainGroup) → AllTargets g.assigns → AllTargets (promote_group test length g).assigns
group_targets test None g all = all
group_targets test (Some n) g all = promoted_targets test g.assigns all

module _ (tree : PlainTree) (part : PlainComponent) (i : Instance) where
  wires_targets : (ws : List PlainWire) → WiresTargets ws → WiresTargets (map (promote_wire tree part i) ws)
  wires_targets [] all = all
  wires_targets (Group g ∷ ws) (h, all) = (group_targets (enables tree part i) (length_of tree part i g) g h, wires_targets ws all)
  wires_targets (Assign a ∷ ws) (h, all) = (h, wires_targets ws all)

-- as assignments that stand in a component
abbrev of_group : PlainGroup → List Standing
of_group g = map (λ a. record { group = Some g.name; assign = a }) g.assigns

abbrev Stands : List Standing → Type 0
Stands list = (x : Standing) → In list x → is_literal x.assign.target.form ≡ false

wire_parts : (ws : List PlainWire) → Stands (map (λ a. record { group = None; assign = a }) (always_in ws)) → Stands (flat_map of_group (groups_in ws)) → WiresTargets ws
wire_parts [] always groups = tt
wire_parts (Group g ∷ ws) always groups = (
  λ a here. groups (record { group = Some g.name; assign = a }) (in_left (of_group g) (flat_map of_group (groups_in ws)) _ (in_image (λ x. record { group = Some g.name; assign = x }) g.assigns a here)),
  wire_parts ws always (λ x there. groups x (in_right (of_group g) (flat_map of_group (groups_in ws)) x there)),
)
wire_parts (Assign a ∷ ws) always groups = (always (record { group = None; assign = a }) (inl refl), wire_parts ws (λ x there. always x (inr there)) groups)

always_back : (ws : List PlainWire) → WiresTargets ws → Stands (map (λ a. record { group = None; assign = a }) (always_in ws))
always_back [] all x here = absurd here
always_back (Group g ∷ ws) (h, all) x here = always_back ws all x here
always_back (Assign a ∷ ws) (h, all) x (inl e) = subst (λ y. is_literal y.assign.target.form ≡ false) e h
always_back (Assign a ∷ ws) (h, all) x (inr there) = always_back ws all x there

groups_back : (ws : List PlainWire) → WiresTargets ws → Stands (flat_map of_group (groups_in ws))
groups_back [] all x here = absurd here
groups_back (Group g ∷ ws) (h, all) x here = by (in_either (of_group g) (flat_map of_group (groups_in ws)) x here) (groups_back ws all)
  where
    by : In (of_group g) x ⊎ In (flat_map of_group (groups_in ws)) x → Stands (flat_map of_group (groups_in ws)) → is_literal x.assign.target.form ≡ false
    by (inl there) rest = let m = image_in (λ a. record { group = Some g.name; assign = a }) g.assigns x there in subst (λ y. is_literal y.assign.target.form ≡ false) m.2 (h m.0 m.1)
    by (inr there) rest = rest x there
groups_back (Assign a ∷ ws) (h, all) x here = groups_back ws all x here

part_targets : (part : PlainComponent) → Stands (standing part) → WiresTargets part.wires
part_targets part all =
    wire_parts part.wires
    (λ x there. all x (in_left _ (flat_map of_group (groups_in part.wires)) x there))
    (λ x there. all x (in_right (map (λ a. record { group = None; assign = a }) (always_in part.wires)) (flat_map of_group (groups_in part.wires)) x there))

part_stands : (part : PlainComponent) → WiresTargets part.wires → Stands (standing part)
part_stands part all x here = by (in_either (map (λ a. record { group = None; assign = a }) (always_in part.wires)) (flat_map of_group (groups_in part.wires)) x here)
  where
    by : In (map (λ a. record { group = None; assign = a }) (always_in part.wires)) x ⊎ In (flat_map of_group (groups_in part.wires)) x → is_literal x.assign.target.form ≡ false
    by (inl there) = always_back part.wires all x there
    by (inr there) = groups_back part.wires all x there

components_targets : (tree : PlainTree) (k : ℕ) (parts : List PlainComponent) → ((part : PlainComponent) → In parts part → Stands (standing part))
    → (part : PlainComponent) → In (components_from tree k parts) part → Stands (standing part)
components_targets tree k [] all part here = absurd here
components_targets tree k (p ∷ parts) all part (inl e) =
    subst (λ q. Stands (standing q)) e
    (part_stands (promote_component tree p (component_of (design_of tree) k)) (wires_targets tree p (component_of (design_of tree) k) p.wires (part_targets p (all p (inl refl)))))
components_targets tree k (p ∷ parts) all part (inr there) = components_targets tree (suc k) parts (λ q here. all q (inr here)) part there

pub made_tree_has_targets : (tree : PlainTree) → HasTargets tree → HasTargets (made_tree tree)
made_tree_has_targets tree all = components_targets tree 0 tree.components all
