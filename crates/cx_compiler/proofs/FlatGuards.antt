-- Guards of a flat design have such parts as those of the design: each is one of the design, with moved ports.
use Rattle.std.proofs.Common.{◌≡◌, ℕ, zero, suc, ◌<◌, Bool, true, false, List, [], ◌∷◌, length, map, flat_map, Option, Some, None, get_or, inl, inr, ⊎_elim, refl, sym, ap, subst, arith}
use Rattle.std.proofs.lemmas.Bool.{cases_lt}
use Rattle.std.proofs.lemmas.List.{length-map, get_or_past, get_or-map}
use Rattle.std.proofs.lemmas.Option.{get_or_from_slice_get}
use Rattle.cx_text.proofs.MemberLaws.{flat_in, image_in, in_at, in_either, number_in}
use Rattle.cx_meaning.specs.Designs.{PlainAssign, PlainGroup, PlainInvoke, PlainGuard, Always, Atom, Negation, All, Any, Compared, Within, PlainGuards, no_guards, a_guard, PlainCell, PlainKind, OfPrimitive, OfComponent, PlainComponent, PlainDesign, component_at, no_component, group_at, no_group}
use Rattle.cx_meaning.specs.declared.ports.PortRef.{PortRef}
use Rattle.cx_meaning.specs.declared.ports.PortRef.TheVariants as ports
use Rattle.cx_meaning.specs.Control.{groups_of}
use Rattle.cx_meaning.specs.Instances.{Instance, Node, Cells, no_cells, a_primitive, an_instance, add_cell, cells_for, tree_within}
use Rattle.cx_text.specs.Members.{In}
use Rattle.cx_meaning.proofs.ActiveLemmas.{group_stands, always_stands}
use Rattle.cx_meaning.proofs.DesignsLemmas.{group_there}
use Rattle.cx_rewrites.specs.Moving.{moved_guard, moved_guards, moved_assign, moved_group}
use Rattle.cx_names.proofs.Base.{some_at}
use Rattle.cx_wiring.specs.Nesting.{IsPart, AreParts, HasParts}
use Rattle.cx_flattening.specs.Copies.{copied_group, enabled_groups}
use Rattle.cx_flattening.specs.Fair.{IsAssignOf}
use Rattle.cx_flattening.specs.FlatDesign.{reached_from, flat_of, renumbered_part, flat_design}
use Rattle.cx_flattening.specs.Flattened.{Kids, kid_at, kid_if, own_port, child_port, invoke_port, always_if, always_from, copies_if, copies, flat_component, flat_part, flat_kids}
use Rattle.cx_flattening.specs.Whole.{is_static}
use Rattle.cx_emitted.specs.ByteLaws.{HasGuards}
use Rattle.cx_flattening.proofs.FlatKeeps.{enabled_in}
use Rattle.cx_rules.proofs.ForeignLemmas.{OwnerOf, continuous, of_group, owner_of}

-- A MOVED GUARD has the parts of the guard
module _ (move : PortRef → PortRef) where
  mutual
    part_moved : (g : PlainGuard) → IsPart g → IsPart (moved_guard move g)
    part_moved Always h = h
    part_moved (Atom p) h = tt
    part_moved (Negation g) h = part_moved g h
    part_moved (All gs) h = parts_moved gs h
    part_moved (Any gs) h = parts_moved gs h
    part_moved (Compared c a b) h = tt
    part_moved (Within from to) h = tt

    parts_moved : (gs : PlainGuards) → AreParts gs → AreParts (moved_guards move gs)
    parts_moved no_guards h = tt
    parts_moved (a_guard g gs) h = (part_moved g h.0, parts_moved gs h.1)

  pub guard_moved : (g : PlainGuard) → HasParts g → HasParts (moved_guard move g)
  guard_moved Always h = tt
  guard_moved (Atom p) h = tt
  guard_moved (Negation g) h = part_moved g h
  guard_moved (All gs) h = parts_moved gs h
  guard_moved (Any gs) h = parts_moved gs h
  guard_moved (Compared c a b) h = tt
  guard_moved (Within from to) h = tt

  all_moved : (list : List PlainAssign) → ((a : PlainAssign) → In list a → HasParts a.guard) → (b : PlainAssign) → In (map (moved_assign move) list) b → HasParts b.guard
  all_moved list h b i = let found = image_in (moved_assign move) list b i in subst (λ (x : PlainAssign). HasParts x.guard) found.2 (guard_moved found.0.guard (h found.0 found.1))

-- OF A COMPONENT, and of an instance with all below it
abbrev GuardsIn : PlainComponent → Type 0
GuardsIn part = (a : PlainAssign) → IsAssignOf part a → HasParts a.guard

abbrev mutual
  TreeGuards : Instance → Type 0
  TreeGuards (Node part cells) = GuardsIn part × CellsGuards cells

  CellsGuards : Cells → Type 0
  CellsGuards no_cells = Unit {0}
  CellsGuards (a_primitive row rest) = CellsGuards rest
  CellsGuards (an_instance child rest) = TreeGuards child × CellsGuards rest

abbrev KidsGuards : Kids → Type 0
KidsGuards kids = (c : ℕ) (child : PlainComponent) → kid_at kids c ≡ Some child → GuardsIn child

module _ (kids : Kids) (part : PlainComponent) (all : KidsGuards kids) (own : GuardsIn part) where
  child_always : (k : Option PlainComponent) (c : ℕ) → ((child : PlainComponent) → k ≡ Some child → GuardsIn child) → (a : PlainAssign) → In (always_if kids part k c) a → HasParts a.guard
  child_always None c h a i = absurd i
  child_always (Some child) c h a i = all_moved (child_port kids part child c (λ n. ports.Input n)) child.always (λ b j. h child refl b (inl j)) a i

  children_always : (c : ℕ) (ks : Kids) → KidsGuards ks → (a : PlainAssign) → In (always_from kids part c ks) a → HasParts a.guard
  children_always c [] h a i = absurd i
  children_always c (k ∷ ks) h a i =
      ⊎_elim (child_always k c (λ child e. h zero child e) a) (children_always (suc c) ks (λ n child e. h (suc n) child e) a)
      (in_either (always_if kids part k c) (always_from kids part (suc c) ks) a i)

  copied : (v : PlainInvoke) (k : Option PlainComponent) → ((child : PlainComponent) → k ≡ Some child → GuardsIn child) → (x : PlainGroup) → In (copies_if kids part k v) x → (a : PlainAssign) → In x.assigns a → HasParts a.guard
  copied v None h x i a j = absurd i
  copied v (Some child) h x i a j =
      let found = image_in (copied_group (invoke_port kids part child v)) (enabled_groups (groups_of child.control) 0 child.groups) x i in
      all_moved (invoke_port kids part child v) found.0.assigns (λ b l. h child refl b (inr (found.0, enabled_in (groups_of child.control) 0 child.groups found.0 found.1, l))) a
      (subst (λ (y : PlainGroup). In y.assigns a) (sym found.2) j)

  flat_guards : GuardsIn (flat_component kids part)
  flat_guards a (inl i) =
      ⊎_elim (all_moved (own_port kids part) part.always (λ b j. own b (inl j)) a) (children_always 0 kids all a)
      (in_either (map (moved_assign (own_port kids part)) part.always) (always_from kids part 0 kids) a i)
  flat_guards a (inr (x, i, j)) =
      ⊎_elim
      (λ l. let found = image_in (moved_group (own_port kids part)) part.groups x l in
      all_moved (own_port kids part) found.0.assigns (λ b m. own b (inr (found.0, found.1, m))) a (subst (λ (y : PlainGroup). In y.assigns a) (sym found.2) j))
      (λ r. let found = flat_in (copies kids part) part.invokes x r in copied found.0 (kid_at kids found.0.cell) (λ child e. all found.0.cell child e) x found.2 a j)
      (in_either (map (moved_group (own_port kids part)) part.groups) (flat_map (copies kids part) part.invokes) x i)

kid_guards : (b : Bool) (own child : PlainComponent) → GuardsIn own → kid_if b own ≡ Some child → GuardsIn child
kid_guards true own child h e = let same : own ≡ child = cc in subst GuardsIn same h
kid_guards false own child h e = absurd cc

mutual
  part_guards : (i : Instance) → TreeGuards i → GuardsIn (flat_part i)
  part_guards (Node part cells) h = flat_guards (flat_kids cells) part (kids_guards cells h.1) h.0

  kids_guards : (cells : Cells) → CellsGuards cells → KidsGuards (flat_kids cells)
  kids_guards no_cells h c child e = absurd cc
  kids_guards (a_primitive row rest) h zero child e = absurd cc
  kids_guards (a_primitive row rest) h (suc c) child e = kids_guards rest h c child e
  kids_guards (an_instance i rest) h zero child e = kid_guards (is_static i) (flat_part i) child (part_guards i h.0) e
  kids_guards (an_instance i rest) h (suc c) child e = kids_guards rest h.1 c child e

-- OF A DESIGN

module _ (d : PlainDesign) (guards : HasGuards d) where
  component_guards : (k : ℕ) → GuardsIn (component_at d k)
  component_guards k = ⊎_elim there (λ past. subst GuardsIn (sym (get_or_past d.components k no_component past)) none) (cases_lt k (length d.components))
    where
      none : GuardsIn no_component
      none a (inl i) = absurd i
      none a (inr (x, i, j)) = absurd i

      there : k < length d.components → GuardsIn (component_at d k)
      there within a (inl i) = guards k within (record { owner = None; assign = a }) (always_stands (component_at d k) a i)
      there within a (inr (x, i, j)) =
          (let at = number_in (component_at d k).groups x i in
          let is : group_at (component_at d k) at.0 ≡ x = get_or_from_slice_get (component_at d k).groups at.0 x no_group at.1 in
          guards k within (record { owner = Some at.0; assign = a }) (group_stands (component_at d k) at.0 a (subst (λ (y : PlainGroup). In y.assigns a) (sym is) j)))

  cell_guards : (trees : ℕ → Instance) → ((k : ℕ) → TreeGuards (trees k)) → (kind : PlainKind) (rest : Cells) → CellsGuards rest → CellsGuards (add_cell trees kind rest)
  cell_guards trees all (OfPrimitive p) rest h = h
  cell_guards trees all (OfComponent k) rest h = (all k, h)

  cells_guards : (trees : ℕ → Instance) → ((k : ℕ) → TreeGuards (trees k)) → (cs : List PlainCell) → CellsGuards (cells_for trees cs)
  cells_guards trees all [] = tt
  cells_guards trees all (c ∷ cs) = cell_guards trees all c.kind (cells_for trees cs) (cells_guards trees all cs)

  tree_guards : (n k : ℕ) → TreeGuards (tree_within d n k)
  tree_guards zero k = (component_guards k, tt)
  tree_guards (suc n) k = (component_guards k, cells_guards (tree_within d n) (tree_guards n) (component_at d k).cells)

  renumbered : (j : ℕ) → GuardsIn (renumbered_part d (flat_of d j))
  renumbered j a (inl i) = part_guards (tree_within d (length d.components) j) (tree_guards (length d.components) j) a (inl i)
  renumbered j a (inr h) = part_guards (tree_within d (length d.components) j) (tree_guards (length d.components) j) a (inr h)

  kept_guards : (k : ℕ) → k < length (flat_design d).components → GuardsIn (component_at (flat_design d) k)
  kept_guards k within =
      let many : length (flat_design d).components ≡ length (reached_from d 0 (length d.components)) = length-map (reached_from d 0 (length d.components)) (λ j. renumbered_part d (flat_of d j)) in
      subst GuardsIn (sym (get_or-map (λ j. renumbered_part d (flat_of d j)) (reached_from d 0 (length d.components)) k 0 no_component (omega (arith, many, within))))
      (renumbered (get_or (reached_from d 0 (length d.components)) k 0))

  pub flat_has_guards : HasGuards (flat_design d)
  flat_has_guards k within o i = by (owner_of (component_at (flat_design d) k) o i)
    where
      by : OwnerOf (component_at (flat_design d) k) o → HasParts o.assign.guard
      by (continuous e j) = kept_guards k within o.assign (inl j)
      by (of_group g e j) =
          (let part = component_at (flat_design d) k in
          let few = group_there part g o.assign j in
          let at = some_at part.groups g few in
          let is : group_at part g ≡ at.0 = get_or_from_slice_get part.groups g at.0 no_group at.1 in
          kept_guards k within o.assign (inr (at.0, in_at part.groups g at.0 at.1, subst (λ (y : PlainGroup). In y.assigns o.assign) is j)))
