-- WHAT EACH ASSIGNMENT OF A TREE KEEPS, however its ports are moved, each assignment of the flat component keeps.
use Rattle.std.proofs.Common.{◌≡◌, ℕ, zero, suc, inl, inr, ⊎_elim, Bool, true, false, List, [], ◌∷◌, map, Option, Some, None, refl, subst}
use Rattle.std.specs.Prelude.{flat_map}
use Rattle.cx_text.proofs.MemberLaws.{image_in, in_either}
use Rattle.cx_meaning.specs.declared.ports.PortRef.{PortRef}
use Rattle.cx_meaning.specs.declared.kinds.GroupKind.{GroupKind}
use Rattle.cx_meaning.specs.Designs.{PlainAssign, PlainGroup, PlainInvoke, PlainKind, OfPrimitive, OfComponent, PlainCell, PlainComponent, PlainDesign, component_at}
use Rattle.cx_meaning.specs.Instances.{Instance, Node, Cells, no_cells, a_primitive, an_instance, OfInstance, cell_at, add_cell, cells_for, tree_within}
use Rattle.cx_meaning.specs.Control.{groups_of}
use Rattle.cx_text.specs.Members.{In}
use Rattle.cx_rules.specs.Counts.{is_one_of, group_if}
use Rattle.cx_rewrites.specs.Moving.{moved_assign, moved_group}
use Rattle.cx_flattening.specs.Copies.{copied_group, enabled_groups}
use Rattle.cx_flattening.specs.Flattened.{Kids, kid_at, own_port, invoke_port, always_from, copies_if, copies, flat_kids, flat_part}
use Rattle.cx_flattening.proofs.FlatBlocks.{kid_always}
use Rattle.cx_flattening.proofs.FlatSafe.{kid_from}

-- the enabled ones are groups
pub enabled_in : (used : List ℕ) (g : ℕ) (xs : List PlainGroup) (x : PlainGroup) → In (enabled_groups used g xs) x → In xs x
enabled_in used g [] x i = absurd i
enabled_in used g (y ∷ ys) x i = by (is_one_of g used) i (λ j. enabled_in used (suc g) ys x j)
  where
    by : (b : Bool) → In (group_if b y (enabled_groups used (suc g) ys)) x → (In (enabled_groups used (suc g) ys) x → In ys x) → In (y ∷ ys) x
    by true (inl e) later = inl e
    by true (inr j) later = inr (later j)
    by false j later = inr (later j)

pub copied_from : (kids : Kids) (part : PlainComponent) (vs : List PlainInvoke) (x : PlainGroup) → In (flat_map (copies kids part) vs) x → (v : PlainInvoke) × In (copies kids part v) x
copied_from kids part [] x i = absurd i
copied_from kids part (v ∷ vs) x i = ⊎_elim (λ j. (v, j)) (λ j. copied_from kids part vs x j) (in_either (copies kids part v) (flat_map (copies kids part) vs) x i)

module _ (P : Option GroupKind → PlainAssign → Type 0) (moves : (kind : Option GroupKind) (f : PortRef → PortRef) (a : PlainAssign) → P kind a → P kind (moved_assign f a)) where
  pub record Keeps (part : PlainComponent) : Type 0 where
    pub always : (a : PlainAssign) → In part.always a → P None a
    pub groups : (x : PlainGroup) (a : PlainAssign) → In part.groups x → In x.assigns a → P (Some x.kind) a

  abbrev mutual
    pub AllKeep : Instance → Type 0
    AllKeep (Node part cells) = Keeps part × KeepBelow cells

    pub KeepBelow : Cells → Type 0
    KeepBelow no_cells = Unit {0}
    KeepBelow (a_primitive row rest) = KeepBelow rest
    KeepBelow (an_instance child rest) = AllKeep child × KeepBelow rest

  -- of a group that is moved
  group_keeps : (f : PortRef → PortRef) (kind : GroupKind) (list : List PlainAssign) → ((a : PlainAssign) → In list a → P (Some kind) a) → (a : PlainAssign) → In (map (moved_assign f) list) a → P (Some kind) a
  group_keeps f kind list each a i = let r = image_in (moved_assign f) list a i in subst (P (Some kind)) r.2 (moves (Some kind) f r.0 (each r.0 r.1))

  copies_keep : (kids : Kids) (part : PlainComponent) (v : PlainInvoke) (k : Option PlainComponent) → ((kid : PlainComponent) → k ≡ Some kid → Keeps kid) → (x : PlainGroup) (a : PlainAssign) → In (copies_if kids part k v) x → In x.assigns a → P (Some x.kind) a
  copies_keep kids part v None keep x a i j = absurd i
  copies_keep kids part v (Some kid) keep x a i j =
      let r = image_in (copied_group (invoke_port kids part kid v)) (enabled_groups (groups_of kid.control) 0 kid.groups) x i in
      subst (λ (y : PlainGroup). (b : PlainAssign) → In y.assigns b → P (Some y.kind) b) r.2
      (group_keeps (invoke_port kids part kid v) r.0.kind r.0.assigns (λ b m. (keep kid refl).groups r.0 b (enabled_in (groups_of kid.control) 0 kid.groups r.0 r.1) m)) a j

  node_keeps : (part : PlainComponent) (cells : Cells) → Keeps part → ((c : ℕ) (kid : PlainComponent) → kid_at (flat_kids cells) c ≡ Some kid → Keeps kid) → Keeps (flat_part (Node part cells))
  node_keeps part cells keep below = record { always = of_always; groups = of_groups }
    where
      of_always : (a : PlainAssign) → In (flat_part (Node part cells)).always a → P None a
      of_always a i =
          ⊎_elim
          (λ j. let r = image_in (moved_assign (own_port (flat_kids cells) part)) part.always a j in subst (P None) r.2 (moves None (own_port (flat_kids cells) part) r.0 (keep.always r.0 r.1)))
          (λ j. let h = kid_always (flat_kids cells) part 0 (flat_kids cells) a j in subst (P None) h.is (moves None _ h.assign ((below h.cell h.child h.its).always h.assign h.among)))
          (in_either (map (moved_assign (own_port (flat_kids cells) part)) part.always) (always_from (flat_kids cells) part 0 (flat_kids cells)) a i)

      of_groups : (x : PlainGroup) (a : PlainAssign) → In (flat_part (Node part cells)).groups x → In x.assigns a → P (Some x.kind) a
      of_groups x a i j =
          ⊎_elim
          (λ k.
          let r = image_in (moved_group (own_port (flat_kids cells) part)) part.groups x k in
          subst (λ (y : PlainGroup). (b : PlainAssign) → In y.assigns b → P (Some y.kind) b) r.2 (group_keeps (own_port (flat_kids cells) part) r.0.kind r.0.assigns (λ b m. keep.groups r.0 b r.1 m)) a j)
          (λ k.
          let r = copied_from (flat_kids cells) part part.invokes x k in
          copies_keep (flat_kids cells) part r.0 (kid_at (flat_kids cells) r.0.cell) (λ kid e. below r.0.cell kid e) x a r.1 j)
          (in_either (map (moved_group (own_port (flat_kids cells) part)) part.groups) (flat_map (copies (flat_kids cells) part) part.invokes) x i)

  mutual
    -- THE FLAT COMPONENT
    pub flat_keeps : (i : Instance) → AllKeep i → Keeps (flat_part i)
    flat_keeps (Node part cells) keep =
        node_keeps part cells keep.0 (λ c kid its. let r = kid_from cells c kid its in subst Keeps r.3 (keeps_below cells keep.1 c r.0 r.1))

    keeps_below : (cells : Cells) → KeepBelow cells → (c : ℕ) (child : Instance) → cell_at cells c ≡ OfInstance child → Keeps (flat_part child)
    keeps_below no_cells keep c child at = absurd (cc)
    keeps_below (a_primitive row rest) keep zero child at = absurd (cc)
    keeps_below (a_primitive row rest) keep (suc c) child at = keeps_below rest keep c child at
    keeps_below (an_instance other rest) keep zero child at = let same : other ≡ child = cc in subst (λ x. Keeps (flat_part x)) same (flat_keeps other keep.0)
    keeps_below (an_instance other rest) keep (suc c) child at = keeps_below rest keep.1 c child at

  -- TREES of a design
  keep_kind : (trees : ℕ → Instance) (kind : PlainKind) (rest : Cells) → ((k : ℕ) → AllKeep (trees k)) → KeepBelow rest → KeepBelow (add_cell trees kind rest)
  keep_kind trees (OfPrimitive p) rest each h = h
  keep_kind trees (OfComponent k) rest each h = (each k, h)

  keep_cells : (trees : ℕ → Instance) (cs : List PlainCell) → ((k : ℕ) → AllKeep (trees k)) → KeepBelow (cells_for trees cs)
  keep_cells trees [] each = tt
  keep_cells trees (c ∷ cs) each = keep_kind trees c.kind (cells_for trees cs) each (keep_cells trees cs each)

  pub keep_within : (d : PlainDesign) → ((k : ℕ) → Keeps (component_at d k)) → (n k : ℕ) → AllKeep (tree_within d n k)
  keep_within d each zero k = (each k, tt)
  keep_within d each (suc n) k = (each k, keep_cells (tree_within d n) (component_at d k).cells (keep_within d each n))
