-- An instance of a design's tree beside its component with all that is below it: the same cells, as far as the tree goes down,
-- and the rules that its assignments, groups and statements keep.
use Rattle.std.proofs.Common.{◌≡◌, ℕ, zero, suc, ◌<◌, ◌⊎◌, inl, inr, ⊎_elim, true, false, ◌&&◌, List, [], ◌∷◌, Option, Some, length, refl, sym, ap, ◌∙◌, subst, arith}
use Rattle.std.specs.Prelude.{slice_get}
use Rattle.std.proofs.lemmas.Bool.{cases_lt}
use Rattle.std.proofs.lemmas.List.{get_or_past}
use Rattle.cx_text.proofs.MemberLaws.{number_in}
use Rattle.cx_text.specs.Members.{In}
use Rattle.cx_text.specs.declared.rules.Rule.TheVariants.{CallShape}
use Rattle.cx_prim.specs.declared.ports.Side.{Side}
use Rattle.cx_prim.specs.declared.ports.Side.TheVariants as sides
use Rattle.cx_prim.specs.Rows.{Row}
use Rattle.cx_prim.specs.Table.{PrimitiveRow, row_of}
use Rattle.cx_meaning.specs.declared.ports.PortRef.{PortRef}
use Rattle.cx_meaning.specs.declared.ports.PortRef.TheVariants as ports
use Rattle.cx_meaning.specs.Rows.{side_of}
use Rattle.cx_meaning.specs.Designs.{PlainKind, OfPrimitive, OfComponent, PlainCell, PlainComponent, PlainDesign, component_at, no_component, group_at}
use Rattle.cx_meaning.specs.Instances.{Instance, At, Nothing, OfRow, OfInstance, cell_at, cells_of, part_of, add_cell, cells_for, tree_within, tree_of, Path, instance_at}
use Rattle.cx_meaning.specs.Active.{Active, same_port, Owned, source_order, drivers}
use Rattle.cx_meaning.specs.Sights.{PartPort, Go, AnInput, AnOutput, ItsDone, part_port}
use Rattle.cx_rules.specs.Ports.{component_of, path_of}
use Rattle.cx_rules.specs.Items.{is_plain}
use Rattle.cx_rules.specs.Footprints.{Mentions, SideLeads, PartLeads, CellLeads, Leads, Depends, at_once, by_way_of}
use Rattle.cx_rules.specs.Spots.{AnAssign, AGroup}
use Rattle.cx_rules.specs.ShapeRules.{is_hole_of, some_target}
use Rattle.cx_rules.specs.CallShape.{Calls, go_port, IsOutside, IsMisshapen}
use Rattle.cx_rules.specs.InvokeShape.{is_static_port}
use Rattle.cx_rules.specs.Accepted.{IsAccepted}
use Rattle.cx_rules.proofs.CircleLemmas.{Reached, a_tree, no_tree, reached}
use Rattle.cx_meaning.proofs.InstancesLemmas.{row_instance, instance_row, instance_is}
use Rattle.cx_meaning.proofs.DesignsLemmas.{same_part}

pub record IsBeside (i whole : Instance) : Type 0 where
  pub same : part_of i ≡ part_of whole
  pub parts : (c : ℕ) (child : Instance) → cell_at (cells_of i) c ≡ OfInstance child → (other : Instance) × (cell_at (cells_of whole) c ≡ OfInstance other) × (part_of other ≡ part_of child)
  pub rows : (c : ℕ) (row : Row) → cell_at (cells_of i) c ≡ OfRow row → cell_at (cells_of whole) c ≡ OfRow row
  -- where it has cells at all, a primitive's is the row of its numbers
  pub primitives : (c : ℕ) (child : Instance) → cell_at (cells_of i) c ≡ OfInstance child → (r : ℕ) (cell : PlainCell) (p : PrimitiveRow) → slice_get (PlainComponent.cells (part_of i)) r ≡ Some cell → cell.kind ≡ OfPrimitive p
      → cell_at (cells_of i) r ≡ OfRow (row_of p)

-- trees of one component, one deeper
module _ (d : PlainDesign) (m n : ℕ) where
  parts_of : (cells : List PlainCell) (c : ℕ) (child : Instance) → cell_at (cells_for (tree_within d m) cells) c ≡ OfInstance child
      → (other : Instance) × (cell_at (cells_for (tree_within d n) cells) c ≡ OfInstance other) × (part_of other ≡ part_of child)
  parts_of [] c child e = absurd (cc)
  parts_of (cell ∷ cells) c child e = of_kind cell.kind c e (parts_of cells)
    where
      of_kind : (kind : PlainKind) (c : ℕ) → cell_at (add_cell (tree_within d m) kind (cells_for (tree_within d m) cells)) c ≡ OfInstance child
          → ((k : ℕ) (one : Instance) → cell_at (cells_for (tree_within d m) cells) k ≡ OfInstance one → (other : Instance) × (cell_at (cells_for (tree_within d n) cells) k ≡ OfInstance other) × (part_of other ≡ part_of one))
          → (other : Instance) × (cell_at (add_cell (tree_within d n) kind (cells_for (tree_within d n) cells)) c ≡ OfInstance other) × (part_of other ≡ part_of child)
      of_kind (OfPrimitive p) zero f later = absurd (row_instance _ child f)
      of_kind (OfPrimitive p) (suc k) f later = later k child f
      of_kind (OfComponent j) zero f later = (tree_within d n j, refl, same_part d n j ∙ sym (same_part d m j) ∙ ap part_of (instance_is (tree_within d m j) child f))
      of_kind (OfComponent j) (suc k) f later = later k child f

  rows_of : (cells : List PlainCell) (c : ℕ) (row : Row) → cell_at (cells_for (tree_within d m) cells) c ≡ OfRow row → cell_at (cells_for (tree_within d n) cells) c ≡ OfRow row
  rows_of [] c row e = absurd (cc)
  rows_of (cell ∷ cells) c row e = of_kind cell.kind c e (rows_of cells)
    where
      of_kind : (kind : PlainKind) (c : ℕ) → cell_at (add_cell (tree_within d m) kind (cells_for (tree_within d m) cells)) c ≡ OfRow row
          → ((k : ℕ) (one : Row) → cell_at (cells_for (tree_within d m) cells) k ≡ OfRow one → cell_at (cells_for (tree_within d n) cells) k ≡ OfRow one)
          → cell_at (add_cell (tree_within d n) kind (cells_for (tree_within d n) cells)) c ≡ OfRow row
      of_kind (OfPrimitive p) zero f later = f
      of_kind (OfPrimitive p) (suc k) f later = later k row f
      of_kind (OfComponent j) zero f later = absurd (instance_row _ row f)
      of_kind (OfComponent j) (suc k) f later = later k row f

primitive_at : (child : ℕ → Instance) (cells : List PlainCell) (r : ℕ) (cell : PlainCell) (p : PrimitiveRow) → slice_get cells r ≡ Some cell → cell.kind ≡ OfPrimitive p → cell_at (cells_for child cells) r ≡ OfRow (row_of p)
primitive_at child [] r cell p e f = absurd (cc)
primitive_at child (x ∷ cells) zero cell p e f = ap (λ kind. cell_at (add_cell child kind (cells_for child cells)) 0) (ap (λ (y : PlainCell). y.kind) (same_cell x cell e) ∙ f)
  where
    same_cell : (a b : PlainCell) → ◌≡◌ {A = Option PlainCell} (Some a) (Some b) → a ≡ b
    same_cell a b h = cc
primitive_at child (x ∷ cells) (suc r) cell p e f = of_kind x.kind (primitive_at child cells r cell p e f)
  where
    of_kind : (kind : PlainKind) → cell_at (cells_for child cells) r ≡ OfRow (row_of p) → cell_at (add_cell child kind (cells_for child cells)) (suc r) ≡ OfRow (row_of p)
    of_kind (OfPrimitive q) later = later
    of_kind (OfComponent j) later = later

tree_beside : (d : PlainDesign) (m n k : ℕ) → IsBeside (tree_within d m k) (tree_within d (suc n) k)
tree_beside d zero n k = record { same = refl; parts = λ c child e. absurd (cc); rows = λ c row e. absurd (cc); primitives = λ c child e. absurd (cc) }
tree_beside d (suc m) n k = record { same = refl; parts = parts_of d m n (component_at d k).cells; rows = rows_of d m n (component_at d k).cells; primitives = λ c child e. primitive_at (tree_within d m) (component_at d k).cells }

-- WHAT LEADS in an instance leads in its component
module _ (i whole : Instance) (beside : IsBeside i whole) (act : Active) where
  mentioned : (p q : PortRef) → Mentions (drivers (part_of i) act p) q → Mentions (drivers (part_of whole) act p) q
  mentioned p q m = subst (λ part. Mentions (drivers part act p) q) beside.same m

  side_leads : (row : Row) (c p : ℕ) (side : Side) (q : PortRef) → SideLeads (part_of i) act row c p side q → SideLeads (part_of whole) act row c p side q
  side_leads row c p sides.Enable q l = mentioned (ports.Cell c p) q l
  side_leads row c p sides.Plain q l = mentioned (ports.Cell c p) q l
  side_leads row c p sides.Output q l = l
  side_leads row c p sides.Registered q l = l

  part_leads : (c p : ℕ) (port : PartPort) (q : PortRef) → PartLeads (part_of i) act c p port q → PartLeads (part_of whole) act c p port q
  part_leads c p Go q l = mentioned (ports.Cell c p) q l
  part_leads c p (AnInput n) q l = mentioned (ports.Cell c p) q l
  part_leads c p (AnOutput n) q l = l
  part_leads c p ItsDone q l = l

  cell_leads : (c p : ℕ) (q : PortRef) (at : At) → cell_at (cells_of i) c ≡ at → CellLeads (part_of i) act c p at q → CellLeads (part_of whole) act c p (cell_at (cells_of whole) c) q
  cell_leads c p q Nothing is l = absurd l
  cell_leads c p q (OfRow row) is l = subst (λ at. CellLeads (part_of whole) act c p at q) (sym (beside.rows c row is)) (side_leads row c p (side_of row p) q l)
  cell_leads c p q (OfInstance child) is l =
      let other = beside.parts c child is in
      subst (λ at. CellLeads (part_of whole) act c p at q) (sym other.1)
      (subst (λ part. PartLeads (part_of whole) act c p (part_port part p) q) (sym other.2) (part_leads c p (part_port (part_of child) p) q l))

  leads_too : (p q : PortRef) → Leads i act p q → Leads whole act p q
  leads_too (ports.Cell c p) q l = cell_leads c p q (cell_at (cells_of i) c) refl l
  leads_too (ports.Input n) q l = l
  leads_too (ports.Output n) q l = mentioned (ports.Output n) q l
  leads_too (ports.Done g) q l = mentioned (ports.Done g) q l
  leads_too (ports.Literal w v) q l = l

  pub depends_too : {p q : PortRef} → Depends i act p q → Depends whole act p q
  depends_too {p} {q} (at_once l) = at_once (leads_too p q l)
  depends_too {p} {q} (by_way_of r l deeper) = by_way_of r (leads_too p r l) (depends_too deeper)

-- THE RULES ON CALLS, of an instance beside its component
pub record KeepsCalls (i whole : Instance) : Type 0 where
  pub beside : IsBeside i whole
  pub shaped : (o : Owned) → In (source_order (part_of whole)) o → IsOutside whole o ⊎ IsMisshapen whole o → ⊥
  pub dynamic : (o : Owned) → In (source_order (part_of whole)) o → is_static_port whole o.assign.target ≡ true → ⊥
  pub driven : (g : ℕ) → g < length (part_of whole).groups → is_plain (group_at (part_of whole) g).kind ≡ true → (c : ℕ) → Calls whole (group_at (part_of whole) g).assigns c
      → (some_target (same_port (go_port c)) (group_at (part_of whole) g).assigns && some_target (is_hole_of g) (group_at (part_of whole) g).assigns) ≡ false → ⊥

-- an instance of a design's tree: its component with all below it, or nothing
pub data StandsFor (d : PlainDesign) (i : Instance) : Type 0 where
  of_component : (k : ℕ) → k < length d.components → IsBeside i (component_of d k) → StandsFor d i
  of_nothing : part_of i ≡ no_component → StandsFor d i

tree_stands : (d : PlainDesign) (m k : ℕ) → StandsFor d (tree_within d m k)
tree_stands d m k =
    ⊎_elim
    (λ l. of_component k l (deeper (length d.components) l))
    (λ l. of_nothing (same_part d m k ∙ get_or_past d.components k no_component l))
    (cases_lt k (length d.components))
  where
    deeper : (n : ℕ) → k < n → IsBeside (tree_within d m k) (tree_within d n k)
    deeper zero l = absurd (omega arith)
    deeper (suc n) l = tree_beside d m n k

pub instance_stands : (d : PlainDesign) (path : Path) → StandsFor d (instance_at (tree_of d) path)
instance_stands d path = of_reached (reached d path (length d.components) d.main)
  where
    of_reached : {i : Instance} → Reached d i → StandsFor d i
    of_reached (a_tree m k) = tree_stands d m k
    of_reached no_tree = of_nothing refl

module _ (d : PlainDesign) (accepted : IsAccepted d) (k : ℕ) (within : k < length d.components) where
  shape_kept : (o : Owned) → In (source_order (part_of (component_of d k))) o → IsOutside (component_of d k) o ⊎ IsMisshapen (component_of d k) o → ⊥
  shape_kept o m breaks =
      let n = number_in (source_order (component_at d k)) o (subst (λ part. In (source_order part) o) (same_part d (length d.components) k) m) in
      accepted.shapes CallShape (record { component = k; part = AnAssign n.0 }) o.assign.place (path_of (component_of d k) o.assign.target) refl
      (inl (record { within = within; number = n.0; is = refl; assign = o; stands = n.1; breaks = (breaks, (refl, refl)) }))

  dynamic_kept : (o : Owned) → In (source_order (part_of (component_of d k))) o → is_static_port (component_of d k) o.assign.target ≡ true → ⊥
  dynamic_kept o m static =
      let n = number_in (source_order (component_at d k)) o (subst (λ part. In (source_order part) o) (same_part d (length d.components) k) m) in
      accepted.shapes CallShape (record { component = k; part = AnAssign n.0 }) o.assign.place (path_of (component_of d k) o.assign.target) refl
      (inr (inr (inl (record { within = within; number = n.0; is = refl; assign = o; stands = n.1; breaks = (static, (refl, refl)) }))))

  driven_kept : (g : ℕ) → g < length (part_of (component_of d k)).groups → is_plain (group_at (part_of (component_of d k)) g).kind ≡ true → (c : ℕ) → Calls (component_of d k) (group_at (part_of (component_of d k)) g).assigns c
      → (some_target (same_port (go_port c)) (group_at (part_of (component_of d k)) g).assigns && some_target (is_hole_of g) (group_at (part_of (component_of d k)) g).assigns) ≡ false → ⊥
  driven_kept g there plain c calls lacks =
      accepted.shapes CallShape (record { component = k; part = AGroup g }) (group_at (part_of (component_of d k)) g).place (group_at (part_of (component_of d k)) g).name refl
      (inr (inl (record {
        within = within;
        number = g;
        is = refl;
        stands = subst (λ part. g < length (PlainComponent.groups part)) (same_part d (length d.components) k) there;
        breaks = (plain, (c, calls, lacks), (refl, refl));
      })))

  pub keeps_calls : (i : Instance) → IsBeside i (component_of d k) → KeepsCalls i (component_of d k)
  keeps_calls i beside = record { beside = beside; shaped = shape_kept; dynamic = dynamic_kept; driven = driven_kept }
