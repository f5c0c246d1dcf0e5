-- An instance of the tree of an accepted design beside its component: the same parts, and widths that its assignments keep.
use Rattle.std.proofs.Common.{◌≡◌, ℕ, zero, suc, ◌+◌, ◌-◌, ◌<◌, inl, inr, ⊎_elim, Bool, true, false, Option, Some, None, List, [], ◌∷◌, ◌++◌, length, if◌then◌else◌, refl, sym, ap, ◌∙◌, subst, arith}
use Rattle.std.specs.Prelude.{nat_lt, nat_eq, option_map}
use Rattle.std.proofs.lemmas.Bool.{eqb-true, ltb-true}
use Rattle.cx_text.proofs.MemberLaws.{number_in}
use Rattle.cx_text.specs.Members.{In}
use Rattle.cx_text.specs.declared.rules.Rule.TheVariants as rules
use Rattle.cx_prim.specs.declared.ports.PortRow.{PortRow}
use Rattle.cx_prim.specs.Rows.{Row}
use Rattle.cx_prim.specs.Table.{row_of}
use Rattle.cx_meaning.specs.declared.ports.PortRef.{PortRef}
use Rattle.cx_meaning.specs.declared.ports.PortRef.TheVariants as ports
use Rattle.cx_meaning.specs.declared.kinds.PortDecl.{PortDecl}
use Rattle.cx_meaning.specs.Designs.{PlainKind, OfPrimitive, OfComponent, PlainCell, PlainComponent, PlainDesign, component_at, no_component}
use Rattle.cx_meaning.specs.Instances.{Instance, Node, Cells, no_cells, a_primitive, an_instance, At, Nothing, OfRow, OfInstance, cell_at, cells_of, part_of, add_cell, cells_for, tree_within, tree_of, Path, instance_at, child_at}
use Rattle.cx_meaning.specs.Active.{Owned, owned, owned_by_groups, source_order}
use Rattle.cx_meaning.specs.Sights.{PartPort, Go, AnInput, AnOutput, ItsDone, output_port, part_port}
use Rattle.cx_rules.specs.Ports.{component_of, declared_width, part_width, cell_width, width_of, path_of}
use Rattle.cx_rules.specs.WidthRules.{differ, first_unequal, IsBadLiteral}
use Rattle.cx_rules.specs.Items.{comparisons_of}
use Rattle.cx_rules.specs.Spots.{AnAssign}
use Rattle.cx_rules.specs.Accepted.{IsAccepted}
use Rattle.cx_rules.specs.Wellformed.{IsDesign, IsKind, IsThere, StandsIn, port_count}
use Rattle.cx_rules.proofs.ForeignLemmas.{sorted_among, owned_among, split, groups_among}
use Rattle.cx_laws.proofs.RowWidths.{HasWidths, row_has}
use Rattle.cx_meaning.proofs.SightsLaws.{not_input, output_is}
use Rattle.cx_meaning.proofs.InstancesLemmas.{here}
use Rattle.cx_text.proofs.ListLaws.{there_at}
use Rattle.cx_text.proofs.BoolLaws.{not_not}
use Rattle.cx_meaning.proofs.DesignsLemmas.{same_part, group_there}

pub declared_there : (decls : List PortDecl) (n : ℕ) → n < length decls → (w : ℕ) × (declared_width decls n ≡ Some w)
declared_there decls n h = let r = there_at decls n h in (r.0.width, ap (option_map (λ (decl : PortDecl). decl.width)) r.1)

pub output_there : (part : PlainComponent) (p n : ℕ) → part_port part p ≡ AnOutput n → n < length part.outputs
output_there part zero n e = absurd (cc)
output_there part (suc m) n e = by (nat_lt m (length part.inputs)) e
  where
    by : (t : Bool) → (if t then AnInput m else output_port (length part.outputs) (m - length part.inputs)) ≡ AnOutput n → n < length part.outputs
    by true e = absurd (cc)
    by false e = output_is (length part.outputs) (m - length part.inputs) n e

pub input_there : (part : PlainComponent) (p n : ℕ) → part_port part p ≡ AnInput n → n < length part.inputs
input_there part zero n e = absurd (cc)
input_there part (suc m) n e = by (nat_lt m (length part.inputs)) refl e
  where
    by : (t : Bool) → nat_lt m (length part.inputs) ≡ t → (if t then AnInput m else output_port (length part.outputs) (m - length part.inputs)) ≡ AnInput n → n < length part.inputs
    by true f e = let same : m ≡ n = cc in subst (λ k. k < length part.inputs) same (ltb-true m (length part.inputs) f)
    by false f e = absurd (not_input (length part.outputs) (m - length part.inputs) n e)

-- a port that is there and is no literal has a width
pub part_there : (part : PlainComponent) (p : ℕ) (kind : PartPort) → part_port part p ≡ kind → (w : ℕ) × (part_width part kind ≡ Some w)
part_there part p Go e = (1, refl)
part_there part p (AnInput n) e = declared_there part.inputs n (input_there part p n e)
part_there part p (AnOutput n) e = declared_there part.outputs n (output_there part p n e)
part_there part p ItsDone e = (1, refl)

pub cell_there : (at : At) (p : ℕ) → p < port_count at → (w : ℕ) × (cell_width at p ≡ Some w)
cell_there Nothing p h = absurd (omega arith)
cell_there (OfRow row) p h = let r = there_at row.ports p h in (r.0.width, ap (option_map (λ (port : PortRow). port.width)) r.1)
cell_there (OfInstance child) p h = part_there (part_of child) p (part_port (part_of child) p) refl

port_there : (i : Instance) (p : PortRef) → IsThere i p → ((w v : ℕ) → p ≡ ports.Literal w v → ⊥) → (w : ℕ) × (width_of i p ≡ Some w)
port_there i (ports.Cell c p) h apart = cell_there (cell_at (cells_of i) c) p h.1
port_there i (ports.Input n) h apart = declared_there (part_of i).inputs n h
port_there i (ports.Output n) h apart = declared_there (part_of i).outputs n h
port_there i (ports.Done g) h apart = (1, refl)
port_there i (ports.Literal w v) h apart = absurd (apart w v refl)

-- CELLS of an instance beside those of another of its component
pub data StandsBeside (Beside : Instance → Instance → Type 0) : At → At → Type 0 where
  no_cell : (other : At) → StandsBeside Beside Nothing other
  of_row : (row : Row) → HasWidths row → StandsBeside Beside (OfRow row) (OfRow row)
  of_part : (child other whole : Instance) → Beside child whole → part_of child ≡ part_of other → part_of child ≡ part_of whole → StandsBeside Beside (OfInstance child) (OfInstance other)

-- an instance of the tree, and the component that it is of with what is below it; or a path that names none
pub data InTree (d : PlainDesign) : Instance → Instance → Type 0 where
  a_tree : (m k : ℕ) → k < length d.components → InTree d (tree_within d m k) (component_of d k)
  no_tree : InTree d (Node no_component no_cells) (Node no_component no_cells)

-- what an assignment keeps: its source is there and no bad literal, and its target is as wide
pub record KeepsWidth (whole : Instance) (o : Owned) : Type 0 where
  pub there : IsThere whole o.assign.source.port
  pub literal : IsBadLiteral o.assign.source.port → ⊥
  pub equal : (w : ℕ) → width_of whole o.assign.source.port ≡ Some w → width_of whole o.assign.target ≡ Some w

pub record IsBeside (d : PlainDesign) (i whole : Instance) : Type 0 where
  pub same : part_of i ≡ part_of whole
  pub cells : (c : ℕ) → StandsBeside (InTree d) (cell_at (cells_of i) c) (cell_at (cells_of whole) c)
  pub assigns : (o : Owned) → In (source_order (part_of i)) o → KeepsWidth whole o

same_widths : (target : Option ℕ) (v w : ℕ) → target ≡ Some v → differ target (Some w) ≡ false → target ≡ Some w
same_widths target v w e f =
    let equal : v ≡ w = eqb-true v w (not_not (nat_eq v w) (ap (λ x. differ x (Some w)) (sym e) ∙ f)) in
    e ∙ ap Some equal

pub stands_in : (part : PlainComponent) (o : Owned) → In (source_order part) o → StandsIn part o.owner o.assign
stands_in part o i =
    ⊎_elim
    (λ j. let r = owned_among None part.always o j in subst (λ x. StandsIn part x o.assign) (sym r.0) r.1)
    (λ j. let r = groups_among 0 part.groups o j in
    let e : 0 + r.number ≡ r.number = omega arith in
    subst (λ x. StandsIn part x o.assign) (sym (r.owner ∙ ap Some e)) (group_there part r.number o.assign r.stands, r.stands))
    (split (owned None part.always) (owned_by_groups 0 part.groups) o (sorted_among (owned None part.always ++ owned_by_groups 0 part.groups) o i))

abbrev at_path : At → Path → Instance
at_path Nothing path = Node no_component no_cells
at_path (OfRow row) path = Node no_component no_cells
at_path (OfInstance child) path = instance_at child path

child_is : (cells : Cells) (c : ℕ) (path : Path) → child_at cells c path ≡ at_path (cell_at cells c) path
child_is no_cells c path = refl
child_is (a_primitive row rest) zero path = refl
child_is (a_primitive row rest) (suc c) path = child_is rest c path
child_is (an_instance child rest) zero path = refl
child_is (an_instance child rest) (suc c) path = child_is rest c path

into : (i : Instance) (c : ℕ) (path : Path) → instance_at i (c ∷ path) ≡ at_path (cell_at (cells_of i) c) path
into (Node part cells) c path = child_is cells c path

pub into_child : (i : Instance) (c : ℕ) (child : Instance) (path : Path) → cell_at (cells_of i) c ≡ OfInstance child → instance_at i (c ∷ path) ≡ instance_at child path
into_child i c child path e = into i c path ∙ ap (λ at. at_path at path) e

module _ (d : PlainDesign) (design : IsDesign d) (accepted : IsAccepted d) where
  module _ (k : ℕ) (within : k < length d.components) where
    equal_widths : (o : Owned) → In (source_order (component_at d k)) o → differ (width_of (component_of d k) o.assign.target) (width_of (component_of d k) o.assign.source.port) ≡ false
    equal_widths o i = by (differ (width_of (component_of d k) o.assign.target) (width_of (component_of d k) o.assign.source.port)) refl
      where
        by : (t : Bool) → differ (width_of (component_of d k) o.assign.target) (width_of (component_of d k) o.assign.source.port) ≡ t → t ≡ false
        by false e = refl
        by true e =
            let n = number_in (source_order (component_at d k)) o i in
            let first = ap (λ (t : Bool). if t then Some o.assign.target else first_unequal (component_of d k) (comparisons_of o.assign.guard)) e in
            absurd (accepted.widths rules.Width (record { component = k; part = AnAssign n.0 }) o.assign.place (path_of (component_of d k) o.assign.target) refl
            (inl (record { within = within; number = n.0; is = refl; assign = o; stands = n.1; breaks = (o.assign.target, first, (refl, refl)) })))

    assign_keeps : (o : Owned) → In (source_order (component_at d k)) o → KeepsWidth (component_of d k) o
    assign_keeps o i =
        let whole = component_of d k in
        let is = (design.components k within).assigns o.owner o.assign (stands_in (component_at d k) o i) in
        let n = number_in (source_order (component_at d k)) o i in
        let t = port_there whole o.assign.target is.target is.no_literal in
        record {
          there = is.sources o.assign.source (inl refl);
          literal = λ bad.
              accepted.widths rules.Literal (record { component = k; part = AnAssign n.0 }) o.assign.source.place [] refl
              (inl (record { within = within; number = n.0; is = refl; assign = o; stands = n.1; breaks = (o.assign.source, inl refl, bad, (refl, refl)) }));
          equal = λ w e. same_widths (width_of whole o.assign.target) t.0 w t.1 (ap (differ (width_of whole o.assign.target)) (sym e) ∙ equal_widths o i);
        }

  kind_beside : (m n : ℕ) (kind : PlainKind) → IsKind d kind → (xs ys : Cells) → ((c : ℕ) → StandsBeside (InTree d) (cell_at xs c) (cell_at ys c))
      → (c : ℕ) → StandsBeside (InTree d) (cell_at (add_cell (tree_within d m) kind xs) c) (cell_at (add_cell (tree_within d n) kind ys) c)
  kind_beside m n (OfPrimitive p) is xs ys rest zero = of_row (row_of p) (row_has p)
  kind_beside m n (OfPrimitive p) is xs ys rest (suc c) = rest c
  kind_beside m n (OfComponent j) is xs ys rest zero =
      of_part (tree_within d m j) (tree_within d n j) (component_of d j) (a_tree m j is) (same_part d m j ∙ sym (same_part d n j)) (same_part d m j ∙ sym (same_part d (length d.components) j))
  kind_beside m n (OfComponent j) is xs ys rest (suc c) = rest c

  cells_beside : (m n : ℕ) (cells : List PlainCell) → ((cell : PlainCell) → In cells cell → IsKind d cell.kind)
      → (c : ℕ) → StandsBeside (InTree d) (cell_at (cells_for (tree_within d m) cells) c) (cell_at (cells_for (tree_within d n) cells) c)
  cells_beside m n [] each c = no_cell Nothing
  cells_beside m n (cell ∷ cells) each c =
      kind_beside m n cell.kind (each cell (inl refl)) (cells_for (tree_within d m) cells) (cells_for (tree_within d n) cells) (cells_beside m n cells (λ x i. each x (inr i))) c

  tree_beside : (m n k : ℕ) → k < length d.components → (c : ℕ) → StandsBeside (InTree d) (cell_at (cells_of (tree_within d m k)) c) (cell_at (cells_of (tree_within d (suc n) k)) c)
  tree_beside zero n k within c = no_cell _
  tree_beside (suc m) n k within c = cells_beside m n (component_at d k).cells (λ cell i. ((design.components k within).cells cell i).kind) c

  some_level : (count k : ℕ) → k < count → (n : ℕ) × (count ≡ suc n)
  some_level zero k h = absurd (omega arith)
  some_level (suc n) k h = (n, refl)

  pub is_beside : {i whole : Instance} → InTree d i whole → IsBeside d i whole
  is_beside (a_tree m k within) =
      let n = some_level (length d.components) k within in
      record {
        same = same_part d m k ∙ sym (same_part d (length d.components) k);
        cells = λ c. subst (λ x. StandsBeside (InTree d) (cell_at (cells_of (tree_within d m k)) c) (cell_at (cells_of (tree_within d x k)) c)) (sym n.1) (tree_beside m n.0 k within c);
        assigns = λ o i. assign_keeps k within o (subst (λ part. In (source_order part) o) (same_part d m k) i);
      }
  is_beside no_tree = record { same = refl; cells = λ c. no_cell Nothing; assigns = λ o i. absurd i }

  pub in_tree : (path : Path) (i whole : Instance) → InTree d i whole → (w : Instance) × InTree d (instance_at i path) w
  in_tree [] i whole t = (whole, subst (λ x. InTree d x whole) (sym (here i)) t)
  in_tree (c ∷ path) i whole t =
      let r = by (in_tree path) ((is_beside t).cells c) in
      (r.0, subst (λ x. InTree d x r.0) (sym (into i c path)) r.1)
    where
      by : {at other : At} → ((child whole : Instance) → InTree d child whole → (w : Instance) × InTree d (instance_at child path) w) → StandsBeside (InTree d) at other → (w : Instance) × InTree d (at_path at path) w
      by deeper (no_cell other) = (Node no_component no_cells, no_tree)
      by deeper (of_row row has) = (Node no_component no_cells, no_tree)
      by deeper (of_part child other whole t e f) = deeper child whole t

  pub path_in_tree : (path : Path) → (w : Instance) × InTree d (instance_at (tree_of d) path) w
  path_in_tree path = in_tree path (tree_of d) (component_of d d.main) (a_tree (length d.components) d.main design.main_there)
