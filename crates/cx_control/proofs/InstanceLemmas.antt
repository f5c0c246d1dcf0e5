-- What an accepted design gives each instance of its tree: rows of the table, enabling ports of one bit, and dones that their
-- own groups drive.
use Rattle.std.proofs.Common.{◌≡◌, ℕ, zero, suc, ◌<◌, ◌⊎◌, inl, inr, ⊎_elim, false, Some, None, List, [], ◌∷◌, length, refl, sym, ap, ◌∙◌, subst, arith}
use Rattle.std.specs.Prelude.{slice_get}
use Rattle.std.proofs.lemmas.Bool.{cases_lt}
use Rattle.std.proofs.lemmas.List.{get_or_past}
use Rattle.cx_text.proofs.MemberLaws.{number_in}
use Rattle.cx_text.specs.Members.{In}
use Rattle.cx_prim.specs.declared.ports.PortRow.{PortRow}
use Rattle.cx_prim.specs.declared.ports.Side.TheVariants as sides
use Rattle.cx_prim.specs.Rows.{Row}
use Rattle.cx_prim.specs.Table.{PrimitiveRow, row_of}
use Rattle.cx_meaning.specs.declared.ports.PortRef.TheVariants as ports
use Rattle.cx_meaning.specs.Rows.{side_from}
use Rattle.cx_meaning.specs.Designs.{PlainKind, OfPrimitive, OfComponent, PlainCell, PlainComponent, PlainDesign, component_at, no_component, group_at, no_group}
use Rattle.cx_meaning.specs.Instances.{Instance, Cells, OfRow, OfInstance, cell_at, cells_of, part_of, add_cell, cells_for, tree_within, tree_of, Path, instance_at}
use Rattle.cx_meaning.specs.Active.{Owned, source_order}
use Rattle.cx_meaning.specs.Sights.{Go, part_port}
use Rattle.cx_rules.specs.Ports.{component_of, is_target_only, path_of, part_width, width_of, cell_width}
use Rattle.cx_rules.specs.Accepted.{IsAccepted}
use Rattle.cx_text.specs.declared.rules.Rule.TheVariants.{NotASource}
use Rattle.cx_meaning.specs.declared.ports.PlacedPort.{PlacedPort}
use Rattle.cx_rules.specs.Items.{sources_of}
use Rattle.cx_rules.specs.ShapeRules.{is_hole}
use Rattle.cx_rules.specs.Spots.{AnAssign}
use Rattle.cx_rules.specs.Wellformed.{IsDesign, StandsIn}
use Rattle.cx_rules.proofs.CircleLemmas.{Reached, a_tree, no_tree, reached}
use Rattle.cx_meaning.proofs.InstancesLemmas.{row_is}
use Rattle.cx_meaning.proofs.DesignsLemmas.{same_part}
use Rattle.cx_laws.proofs.TreeLemmas.{stands_in}

-- ROWS are those of the table
abbrev pub OfTable : Row → Type 0
OfTable row = (p : PrimitiveRow) × (row_of p ≡ row)

abbrev AreOfTable : (ℕ → Row → Type 0) → Type 0
AreOfTable stands = (c : ℕ) (row : Row) → stands c row → OfTable row

kind_rows : (child : ℕ → Instance) (kind : PlainKind) (rest : Cells) → AreOfTable (λ c row. cell_at rest c ≡ OfRow row) → AreOfTable (λ c row. cell_at (add_cell child kind rest) c ≡ OfRow row)
kind_rows child (OfPrimitive p) rest each zero row e = (p, row_is (row_of p) row e)
kind_rows child (OfPrimitive p) rest each (suc c) row e = each c row e
kind_rows child (OfComponent k) rest each zero row e = absurd (other e)
  where
    other : OfInstance (child k) ≡ OfRow row → ⊥
    other f = cc
kind_rows child (OfComponent k) rest each (suc c) row e = each c row e

cells_rows : (child : ℕ → Instance) (cells : List PlainCell) → AreOfTable (λ c row. cell_at (cells_for child cells) c ≡ OfRow row)
cells_rows child [] c row e = absurd (cc)
cells_rows child (cell ∷ cells) c row e = kind_rows child cell.kind (cells_for child cells) (cells_rows child cells) c row e

tree_rows : (d : PlainDesign) (m k : ℕ) → AreOfTable (λ c row. cell_at (cells_of (tree_within d m k)) c ≡ OfRow row)
tree_rows d zero k c row e = absurd (cc)
tree_rows d (suc m) k c row e = cells_rows (tree_within d m) (component_at d k).cells c row e

reached_rows : (d : PlainDesign) {i : Instance} → Reached d i → AreOfTable (λ c row. cell_at (cells_of i) c ≡ OfRow row)
reached_rows d (a_tree m k) = tree_rows d m k
reached_rows d no_tree = λ c row e. absurd (cc)

pub instance_rows : (d : PlainDesign) (path : Path) (c : ℕ) (row : Row) → cell_at (cells_of (instance_at (tree_of d) path)) c ≡ OfRow row → OfTable row
instance_rows d path = reached_rows d (reached d path (length d.components) d.main)

-- WIDTHS of enabling ports
pub enables_there : (list : List PortRow) (p : ℕ) → side_from list p ≡ sides.Enable → (port : PortRow) × (slice_get list p ≡ Some port) × (port.side ≡ sides.Enable)
enables_there [] p e = absurd (cc)
enables_there (port ∷ list) zero e = (port, refl, e)
enables_there (port ∷ list) (suc p) e = enables_there list p e

-- a cell of an instance is a cell of its component
abbrev CellsWithin : Instance → Type 0
CellsWithin i = (c : ℕ) (row : Row) → cell_at (cells_of i) c ≡ OfRow row → c < length (part_of i).cells

cell_within : (child : ℕ → Instance) (cells : List PlainCell) (c : ℕ) (row : Row) → cell_at (cells_for child cells) c ≡ OfRow row → c < length cells
cell_within child [] c row e = absurd (cc)
cell_within child (cell ∷ cells) c row e = by_kind (λ n f. cell_within child cells n row f) cell.kind c e
  where
    by_kind : ((n : ℕ) → cell_at (cells_for child cells) n ≡ OfRow row → n < length cells) → (kind : PlainKind) (c : ℕ) → cell_at (add_cell child kind (cells_for child cells)) c ≡ OfRow row → c < suc (length cells)
    by_kind deeper (OfPrimitive p) zero e = omega arith
    by_kind deeper (OfPrimitive p) (suc c) e = let h : c < length cells = deeper c e in omega arith
    by_kind deeper (OfComponent k) zero e = absurd (cc)
    by_kind deeper (OfComponent k) (suc c) e = let h : c < length cells = deeper c e in omega arith

tree_within_cells : (d : PlainDesign) (m k : ℕ) → CellsWithin (tree_within d m k)
tree_within_cells d zero k c row e = absurd (cc)
tree_within_cells d (suc m) k c row e = cell_within (tree_within d m) (component_at d k).cells c row e

reached_within : (d : PlainDesign) {i : Instance} → Reached d i → CellsWithin i
reached_within d (a_tree m k) = tree_within_cells d m k
reached_within d no_tree = λ c row e. absurd (cc)

pub instance_within : (d : PlainDesign) (path : Path) → CellsWithin (instance_at (tree_of d) path)
instance_within d path = reached_within d (reached d path (length d.components) d.main)

pub go_narrow : (i : Instance) (c p : ℕ) (child : Instance) → cell_at (cells_of i) c ≡ OfInstance child → part_port (part_of child) p ≡ Go → width_of i (ports.Cell c p) ≡ Some 1
go_narrow i c p child at is_go = ap (λ x. cell_width x p) at ∙ ap (part_width (part_of child)) is_go

-- ASSIGNMENTS of an instance stand in its component, and each keeps the rule Keeps, where those of the components do
pub there_below : (part : PlainComponent) (g : ℕ) → (g < length part.groups) ⊎ (group_at part g ≡ no_group)
there_below part g = ⊎_elim (λ h. inl h) (λ h. inr (get_or_past part.groups g no_group h)) (cases_lt g (length part.groups))

abbrev AllKeep : (Owned → Type 0) → PlainComponent → Type 0
AllKeep Keeps part = (o : Owned) → In (source_order part) o → Keeps o

module _ (d : PlainDesign) (Keeps : Owned → Type 0) (each : (k : ℕ) → k < length d.components → (o : Owned) → In (source_order (component_at d k)) o → StandsIn (component_at d k) o.owner o.assign → Keeps o) where
  component_keeps : (k : ℕ) → k < length d.components → AllKeep Keeps (component_at d k)
  component_keeps k within o i = each k within o i (stands_in (component_at d k) o i)

  tree_keeps : (m k : ℕ) → AllKeep Keeps (part_of (tree_within d m k))
  tree_keeps m k = subst (AllKeep Keeps) (sym (same_part d m k)) (⊎_elim (λ h. component_keeps k h) (λ h. past (get_or_past d.components k no_component h)) (cases_lt k (length d.components)))
    where
      past : component_at d k ≡ no_component → AllKeep Keeps (component_at d k)
      past e = subst (AllKeep Keeps) (sym e) (λ o i. absurd i)

  reached_keeps : {i : Instance} → Reached d i → AllKeep Keeps (part_of i)
  reached_keeps (a_tree m k) = tree_keeps m k
  reached_keeps no_tree = λ o i. absurd i

  pub instance_keeps : (path : Path) → AllKeep Keeps (part_of (instance_at (tree_of d) path))
  instance_keeps path = reached_keeps (reached d path (length d.components) d.main)

-- in a design a done is driven in its own group alone, an output continuously alone, and nothing names a hole
pub record KeepsPorts (o : Owned) : Type 0 where
  pub own_done : (g : ℕ) → o.assign.target ≡ ports.Done g → o.owner ≡ Some g
  pub output_outside : (n : ℕ) → o.assign.target ≡ ports.Output n → o.owner ≡ None
  pub no_hole : (p : PlacedPort) → In (sources_of o.assign) p → is_hole p.port ≡ false

pub instance_ports : (d : PlainDesign) → IsDesign d → (path : Path) → AllKeep KeepsPorts (part_of (instance_at (tree_of d) path))
instance_ports d design =
    instance_keeps d KeepsPorts (λ k within o i stands.
    let is = (design.components k within).assigns o.owner o.assign stands in
    record { own_done = is.own_hole; output_outside = is.output_outside; no_hole = is.no_hole })

-- in an accepted one no assignment names an output of the signature
is_source_only : (d : PlainDesign) → IsAccepted d → (k : ℕ) → k < length d.components → (o : Owned) → In (source_order (component_at d k)) o → (p : PlacedPort) → In (sources_of o.assign) p → (n : ℕ) → p.port ≡ ports.Output n → ⊥
is_source_only d accepted k within o i p stands n is =
    let at = number_in (source_order (component_at d k)) o i in
    accepted.widths NotASource (record { component = k; part = AnAssign at.0 }) p.place (path_of (component_of d k) p.port) refl
    (inl (record { within = within; number = at.0; is = refl; assign = o; stands = at.1; breaks = (p, stands, ap (is_target_only (component_of d k)) is, (refl, refl)) }))

pub instance_outputs : (d : PlainDesign) → IsAccepted d → (path : Path) → AllKeep (λ o. (p : PlacedPort) → In (sources_of o.assign) p → (n : ℕ) → p.port ≡ ports.Output n → ⊥) (part_of (instance_at (tree_of d) path))
instance_outputs d accepted = instance_keeps d (λ o. (p : PlacedPort) → In (sources_of o.assign) p → (n : ℕ) → p.port ≡ ports.Output n → ⊥) (λ k within o i stands. is_source_only d accepted k within o i)
