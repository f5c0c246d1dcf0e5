-- What an accepted design gives each instance of its tree: its rows, and where its assignments may lead.
use Rattle.std.proofs.Common.{◌≡◌, ℕ, zero, suc, ◌<◌, inl, inr, ⊎_elim, true, Some, None, List, [], ◌∷◌, length, refl, sym, ap, ◌∙◌, subst, arith}
use Rattle.std.proofs.lemmas.Bool.{cases_lt}
use Rattle.std.proofs.lemmas.List.{get_or_past}
use Rattle.cx_text.proofs.MemberLaws.{number_in}
use Rattle.cx_text.specs.declared.rules.Rule.TheVariants.{NotASource, AlwaysEnable}
use Rattle.cx_prim.specs.declared.ports.Side.TheVariants as sides
use Rattle.cx_prim.specs.Rows.{Row, is_enable_side}
use Rattle.cx_meaning.specs.declared.ports.PortRef.TheVariants as ports
use Rattle.cx_meaning.specs.declared.ports.PlacedPort.{PlacedPort}
use Rattle.cx_meaning.specs.Rows.{side_of}
use Rattle.cx_meaning.specs.Designs.{PlainAssign, PlainKind, OfPrimitive, OfComponent, PlainCell, PlainComponent, PlainDesign, component_at, no_component}
use Rattle.cx_meaning.specs.Instances.{Instance, Node, Cells, no_cells, Nothing, OfRow, cell_at, cells_of, part_of, add_cell, cells_for, tree_within, tree_of, Path, instance_at}
use Rattle.cx_meaning.specs.Active.{Owned, source_order}
use Rattle.cx_text.specs.Members.{In}
use Rattle.cx_rules.specs.Ports.{component_of, is_primitive_enable, is_target_only, path_of}
use Rattle.cx_meaning.specs.Calls.{enables_at}
use Rattle.cx_rules.specs.Items.{Visited, statements_in, test_in}
use Rattle.cx_rules.specs.Footprints.{AssignNames}
use Rattle.cx_rules.specs.Spots.{AnAssign, AStatement}
use Rattle.cx_rules.specs.Accepted.{IsAccepted}
use Rattle.cx_rules.specs.Wellformed.{IsDesign}
use Rattle.cx_rules.proofs.CircleLemmas.{Reached, a_tree, no_tree, reached, cells_for_none}
use Rattle.cx_frames.proofs.EnableLemmas.{HasLawfulRows, tree_lawful}
use Rattle.cx_text.proofs.OptionLaws.{none_some}
use Rattle.cx_meaning.proofs.InstancesLemmas.{instance_row, nothing_row}
use Rattle.cx_rules.proofs.ItemsLemmas.{bare_test}
use Rattle.cx_meaning.proofs.DesignsLemmas.{same_part}
use Rattle.cx_rules.proofs.FoundLemmas.{source_in}

-- a primitive cell is one whatever stands below the component's other cells
same_kind : (f g : ℕ → Instance) (kind : PlainKind) (xs ys : Cells) → ((c : ℕ) (row : Row) → cell_at xs c ≡ OfRow row → cell_at ys c ≡ OfRow row) → (c : ℕ) (row : Row) → cell_at (add_cell f kind xs) c ≡ OfRow row → cell_at (add_cell g kind ys) c ≡ OfRow row
same_kind f g (OfPrimitive p) xs ys h zero row e = e
same_kind f g (OfPrimitive p) xs ys h (suc c) row e = h c row e
same_kind f g (OfComponent k) xs ys h zero row e = absurd (instance_row (f k) row e)
same_kind f g (OfComponent k) xs ys h (suc c) row e = h c row e

same_cells : (f g : ℕ → Instance) (cells : List PlainCell) (c : ℕ) (row : Row) → cell_at (cells_for f cells) c ≡ OfRow row → cell_at (cells_for g cells) c ≡ OfRow row
same_cells f g [] c row e = absurd (nothing_row row e)
same_cells f g (cell ∷ cells) c row e = same_kind f g cell.kind (cells_for f cells) (cells_for g cells) (same_cells f g cells) c row e

in_component : (d : PlainDesign) (m n k c : ℕ) (row : Row) → k < n → cell_at (cells_of (tree_within d m k)) c ≡ OfRow row → cell_at (cells_of (tree_within d n k)) c ≡ OfRow row
in_component d zero n k c row l e = absurd (nothing_row row e)
in_component d (suc m) zero k c row l e = absurd (omega arith)
in_component d (suc m) (suc n) k c row l e = same_cells (tree_within d m) (tree_within d n) (component_at d k).cells c row e

-- what the rules keep in an instance
pub record IsKept (i : Instance) : Type 0 where
  pub lawful : HasLawfulRows i
  pub quiet : (o : Owned) (c p : ℕ) (row : Row) → In (source_order (part_of i)) o → o.owner ≡ None → o.assign.target ≡ ports.Cell c p → cell_at (cells_of i) c ≡ OfRow row → side_of row p ≡ sides.Enable → ⊥
  pub sources : (o : Owned) (n : ℕ) → In (source_order (part_of i)) o → AssignNames o.assign (ports.Output n) → ⊥
  pub tests : (v : Visited) (p : PlacedPort) (n : ℕ) → In (statements_in (part_of i)) v → test_in v.form ≡ Some p → p.port ≡ ports.Output n → ⊥
  pub holes : (a : PlainAssign) (g : ℕ) → In (part_of i).always a → a.target ≡ ports.Done g → ⊥

module _ (d : PlainDesign) (design : IsDesign d) (accepted : IsAccepted d) (k : ℕ) (within : k < length d.components) where
  no_sink : (o : Owned) (n : ℕ) → In (source_order (component_at d k)) o → AssignNames o.assign (ports.Output n) → ⊥
  no_sink o n i names =
      let at = number_in (source_order (component_at d k)) o i in
      let p = source_in o.assign (ports.Output n) names in
      accepted.widths NotASource (record { component = k; part = AnAssign at.0 }) p.0.place (path_of (component_of d k) p.0.port) refl
      (inl (record { within = within; number = at.0; is = refl; assign = o; stands = at.1; breaks = (p.0, p.1, ap (is_target_only (component_of d k)) p.2, (refl, refl)) }))

  no_sunk_test : (v : Visited) (p : PlacedPort) (n : ℕ) → In (statements_in (component_at d k)) v → test_in v.form ≡ Some p → p.port ≡ ports.Output n → ⊥
  no_sunk_test v p n i e is =
      let at = number_in (statements_in (component_at d k)) v i in
      accepted.widths NotASource (record { component = k; part = AStatement at.0 }) p.place (path_of (component_of d k) p.port) refl
      (inr (inl (record { within = within; number = at.0; is = refl; statement = v; stands = at.1; breaks = (p, e, ap (is_target_only (component_of d k)) is, (refl, refl)) })))

  no_enable : (o : Owned) (c p : ℕ) (row : Row) → In (source_order (component_at d k)) o → o.owner ≡ None → o.assign.target ≡ ports.Cell c p → cell_at (cells_of (component_of d k)) c ≡ OfRow row → side_of row p ≡ sides.Enable → ⊥
  no_enable o c p row i owner target at side =
      let n = number_in (source_order (component_at d k)) o i in
      let enables : is_primitive_enable (component_of d k) o.assign.target ≡ true = ap (is_primitive_enable (component_of d k)) target ∙ ap (λ x. enables_at x p) at ∙ ap is_enable_side side in
      accepted.shapes AlwaysEnable (record { component = k; part = AnAssign n.0 }) o.assign.place (path_of (component_of d k) o.assign.target) refl
      (record { within = within; number = n.0; is = refl; assign = o; stands = n.1; breaks = (owner, enables, (refl, refl)) })

  no_hole : (a : PlainAssign) (g : ℕ) → In (component_at d k).always a → a.target ≡ ports.Done g → ⊥
  no_hole a g i e = none_some g (((design.components k within).assigns None a i).own_hole g e)

  kept_tree : (m : ℕ) → IsKept (tree_within d m k)
  kept_tree m = record {
    lawful = tree_lawful d m k;
    quiet = λ o c p row i owner target at side. no_enable o c p row (subst (λ x. In (source_order x) o) (same_part d m k) i) owner target (in_component d m (length d.components) k c row within at) side;
    sources = λ o n i names. no_sink o n (subst (λ x. In (source_order x) o) (same_part d m k) i) names;
    tests = λ v p n i e is. no_sunk_test v p n (subst (λ x. In (statements_in x) v) (same_part d m k) i) e is;
    holes = λ a g i e. no_hole a g (subst (λ x. In x.always a) (same_part d m k) i) e;
  }

module _ (part : PlainComponent) (cells : Cells) (none : part ≡ no_component) (empty : (c : ℕ) → cell_at cells c ≡ Nothing) where
  pub kept_bare : IsKept (Node part cells)
  kept_bare = record {
    lawful = λ c row e. absurd (nothing_row row (sym (empty c) ∙ e));
    quiet = λ o c p row i owner target at side. nothing_row row (sym (empty c) ∙ at);
    sources = λ o n i names. let j : In (source_order no_component) o = subst (λ x. In (source_order x) o) none i in j;
    tests = λ v p n i e is. bare_test v p (subst (λ x. In (statements_in x) v) none i) e;
    holes = λ a g i e. let j : In no_component.always a = subst (λ x. In x.always a) none i in j;
  }

module _ (d : PlainDesign) (design : IsDesign d) (accepted : IsAccepted d) where
  bare_tree : (m k : ℕ) → component_at d k ≡ no_component → IsKept (tree_within d m k)
  bare_tree zero k e = kept_bare (component_at d k) no_cells e (λ c. refl)
  bare_tree (suc m) k e = kept_bare (component_at d k) (cells_for (tree_within d m) (component_at d k).cells) e (cells_for_none (tree_within d m) (component_at d k).cells (ap (λ x. x.cells) e))

  kept_reached : {i : Instance} → Reached d i → IsKept i
  kept_reached (a_tree m k) = ⊎_elim (λ l. kept_tree d design accepted k l m) (λ l. bare_tree m k (get_or_past d.components k no_component l)) (cases_lt k (length d.components))
  kept_reached no_tree = kept_bare no_component no_cells refl (λ c. refl)

  pub kept_instance : (path : Path) → IsKept (instance_at (tree_of d) path)
  kept_instance path = kept_reached (reached d path (length d.components) d.main)
