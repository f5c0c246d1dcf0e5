-- Instances of a design beside those of the shared design: the parts are shared, and at each cell's new number stands what stands at the cell.
use Rattle.std.proofs.Common.{◌≡◌, ℕ, zero, suc, ◌≤◌, ⊎_elim, Bool, true, false, List, [], ◌∷◌, ◌++◌, length, map, Option, Some, None, option_map, slice_get, refl, sym, ap, ap₂, ◌∙◌, subst, arith}
use Rattle.std.specs.Prelude.{not, if◌then◌else◌, flat_map, is_some}
use Rattle.std.proofs.lemmas.Bool.{cases_lt}
use Rattle.std.proofs.lemmas.List.{length-map, map-append}
use Rattle.std.proofs.lemmas.Option.{slice_get-map}
use Rattle.cx_text.proofs.OptionLaws.{map_some}
use Rattle.cx_prim.specs.Table.{PrimitiveRow, row_of}
use Rattle.cx_meaning.specs.declared.ports.PortRef.{PortRef}
use Rattle.cx_meaning.specs.declared.ports.PortRef.TheVariants as ports
use Rattle.cx_meaning.specs.Designs.{PlainKind, OfPrimitive, OfComponent, PlainCell, PlainInvoke, PlainGroup, PlainComponent, PlainDesign, component_at, group_at}
use Rattle.cx_meaning.specs.Instances.{Instance, At, Nothing, OfRow, OfInstance, cell_at, cell_count, cells_of, part_of, cells_for, tree_within}
use Rattle.cx_meaning.specs.Active.{Owned, no_later, placed_in, by_place, source_order}
use Rattle.cx_meaning.specs.Sights.{part_port}
use Rattle.cx_meaning.specs.Islands.{kind_length, group_length}
use Rattle.cx_meaning.proofs.CycleLemmas.{count_for}
use Rattle.cx_meaning.proofs.DesignsLemmas.{same_part}
use Rattle.cx_meaning.proofs.InstancesLemmas.{at_kind}
use Rattle.cx_rules.specs.Ports.{component_of, declared_width, part_width, cell_width, width_of, written_width, is_part_output, is_cell_output, is_source_only, is_target_only, is_primitive_enable, is_instance, is_part_port}
use Rattle.cx_meaning.specs.Calls.{enables_at}
use Rattle.cx_rules.specs.Items.{statements_in, Dynamic}
use Rattle.cx_rewrites.specs.Moving.{moved_assign, moved_group, moved_owned}
use Rattle.cx_rewrites.specs.Renaming.{renamed, AtLike, same_row, like_child, both_nothing}
use Rattle.cx_rewrites.specs.Driving.{assigns_of}
use Rattle.cx_rewrites.proofs.DriverLemmas.{assigns_of-moved}
use Rattle.cx_sharing.specs.Uses.{kind_in}
use Rattle.cx_sharing.specs.Giving.{keeper, stays, staying, new_cell}
use Rattle.cx_sharing.specs.SharedDesign.{remaining, shared_invoke, shared_part, shared_design}
use Rattle.cx_rules.specs.StaticControl.{is_written, is_timed}
use Rattle.cx_rules.specs.Invokes.{invoke_at, capture_of, captures_of}
use Rattle.cx_rules.specs.InvokeShape.{latency_at, is_static_port}
use Rattle.cx_rules.specs.Spots.{binds_in}
use Rattle.cx_sharing.proofs.KeptLemmas.{keeper_stays}
use Rattle.cx_sharing.proofs.KeeperLemmas.{keeper_kind, keeper_within, keeper_past}
use Rattle.cx_sharing.proofs.RemainingLemmas.{kind_left, length_left, staying_past, none_past}
use Rattle.cx_sharing.proofs.TwinLemmas.{at_new_number, shared_component}
use Rattle.cx_rewrites.proofs.MovedLists.{moved_visited, moved_group_at, visit-moved}

-- what stands at a cell, and at its new number
pub data AtShared (part : PlainComponent) (c : ℕ) : At → At → Type 0 where
  no_cell : AtShared part c Nothing Nothing
  a_row : (p : PrimitiveRow) → kind_in part.cells c ≡ OfPrimitive p → AtShared part c (OfRow (row_of p)) (OfRow (row_of p))
  a_part : (k : ℕ) (child twin : Instance) → kind_in part.cells c ≡ OfComponent k → part_of twin ≡ shared_part (part_of child) → AtShared part c (OfInstance child) (OfInstance twin)

pub record Shares (i j : Instance) : Type 0 where
  pub part : part_of j ≡ shared_part (part_of i)
  pub cells : (c : ℕ) → AtShared (part_of i) c (cell_at (cells_of i) c) (cell_at (cells_of j) (new_cell (part_of i) c))
  pub past : (e : ℕ) → staying (stays (part_of i)) (cell_count (cells_of i)) ≤ e → cell_at (cells_of j) e ≡ Nothing

-- THE COMPONENTS of the shared design
pub as_many_parts : (d : PlainDesign) → length (shared_design d).components ≡ length d.components
as_many_parts d = length-map d.components shared_part

-- the kind of a cell stays at its new number
kind_past : (cells : List PlainCell) (c : ℕ) → length cells ≤ c → kind_in cells c ≡ OfComponent 0
kind_past [] c le = refl
kind_past (cell ∷ cells) zero le = absurd (omega (arith, le))
kind_past (cell ∷ cells) (suc c) le = kind_past cells c (omega (arith, le))

pub shared_kind : (part : PlainComponent) (c : ℕ) → kind_in (remaining (stays part) 0 part.cells) (new_cell part c) ≡ kind_in part.cells c
shared_kind part c = ⊎_elim
    (λ lt. kind_left (stays part) part.cells (keeper part c) (keeper_stays part c) (keeper_within part c lt) ∙ keeper_kind part c)
    (λ le. kind_past (remaining (stays part) 0 part.cells) (new_cell part c) (staying_past (stays part) part.cells (keeper part c) (subst (λ n. length part.cells ≤ n) (sym (keeper_past part c le)) le)) ∙ sym (kind_past part.cells c le))
    (cases_lt c (length part.cells))

-- ITS INSTANCES
module _ (part : PlainComponent) (f g : ℕ → Instance) (beside : (k : ℕ) → part_of (g k) ≡ shared_part (part_of (f k))) where
  of_kind : (c : ℕ) (kind : PlainKind) → kind_in part.cells c ≡ kind → AtShared part c (at_kind f kind) (at_kind g kind)
  of_kind c (OfPrimitive p) e = a_row p e
  of_kind c (OfComponent k) e = a_part k (f k) (g k) e (beside k)

  cells-shared : (c : ℕ) → AtShared part c (cell_at (cells_for f part.cells) c) (cell_at (cells_for g (remaining (stays part) 0 part.cells)) (new_cell part c))
  cells-shared c = at_new_number part f g (AtShared part c) no_cell c (of_kind c)

module _ (d : PlainDesign) where
  child-shared : (n k : ℕ) → part_of (tree_within (shared_design d) n k) ≡ shared_part (part_of (tree_within d n k))
  child-shared n k = same_part (shared_design d) n k ∙ shared_component d k ∙ ap shared_part (sym (same_part d n k))

  tree-shared : (n k : ℕ) → Shares (tree_within d n k) (tree_within (shared_design d) n k)
  tree-shared zero k = record { part = shared_component d k; cells = λ c. no_cell; past = λ e le. refl }
  tree-shared (suc n) k = record {
    part = shared_component d k;
    cells = λ c. subst (λ (other : PlainComponent). AtShared (component_at d k) c (cell_at (cells_for (tree_within d n) (component_at d k).cells) c)
        (cell_at (cells_for (tree_within (shared_design d) n) other.cells) (new_cell (component_at d k) c))) (sym (shared_component d k))
        (cells-shared (component_at d k) (tree_within d n) (tree_within (shared_design d) n) (child-shared n) c);
    past = λ e le.
        subst (λ (other : PlainComponent). cell_at (cells_for (tree_within (shared_design d) n) other.cells) e ≡ Nothing) (sym (shared_component d k))
        (let many = length_left (stays (component_at d k)) (component_at d k).cells in
        let count : staying (stays (component_at d k)) (cell_count (cells_for (tree_within d n) (component_at d k).cells)) ≡ staying (stays (component_at d k)) (length (component_at d k).cells) =
        ap (staying (stays (component_at d k))) (count_for (tree_within d n) (component_at d k).cells) in
        none_past (tree_within (shared_design d) n) (remaining (stays (component_at d k)) 0 (component_at d k).cells) e (omega (arith, many, count, le)));
  }

  pub component-shares : (k : ℕ) → Shares (component_of d k) (component_of (shared_design d) k)
  component-shares k = subst (λ n. Shares (component_of d k) (tree_within (shared_design d) n k)) (sym (as_many_parts d)) (tree-shared (length d.components) k)

-- STATIC INVOKES of a shared component
module _ (part : PlainComponent) where
  pub invoke_at-shared : (k : ℕ) → invoke_at (shared_part part) k ≡ option_map (shared_invoke (new_cell part)) (invoke_at part k)
  invoke_at-shared k = slice_get-map (shared_invoke (new_cell part)) part.invokes k

  -- what is read of an invoke but its cell and its inputs is the same
  pub of_invoke : {A : Type 0} (read : Option PlainInvoke → A) → ((v : PlainInvoke) → read (Some (shared_invoke (new_cell part) v)) ≡ read (Some v)) → (k : ℕ) → read (invoke_at (shared_part part) k) ≡ read (invoke_at part k)
  of_invoke read each k = ap read (invoke_at-shared k) ∙ by (invoke_at part k)
    where
      by : (o : Option PlainInvoke) → read (option_map (shared_invoke (new_cell part)) o) ≡ read o
      by None = refl
      by (Some v) = each v

  pub captures_of-shared : (ks : List ℕ) → captures_of (shared_part part) ks ≡ captures_of part ks
  captures_of-shared [] = refl
  captures_of-shared (k ∷ ks) = ap₂ ◌++◌ (of_invoke capture_of (λ v. refl) k) (captures_of-shared ks)

  binds_moved : (vs : List PlainInvoke) → flat_map (λ (v : PlainInvoke). v.inputs) (map (shared_invoke (new_cell part)) vs) ≡ map (moved_assign (renamed (new_cell part))) (flat_map (λ (v : PlainInvoke). v.inputs) vs)
  binds_moved [] = refl
  binds_moved (v ∷ vs) =
      ap (λ list. map (moved_assign (renamed (new_cell part))) v.inputs ++ list) (binds_moved vs)
      ∙ sym (map-append (moved_assign (renamed (new_cell part))) v.inputs (flat_map (λ (w : PlainInvoke). w.inputs) vs))

  pub binds_in-shared : binds_in (shared_part part) ≡ map (moved_assign (renamed (new_cell part))) (binds_in part)
  binds_in-shared = binds_moved part.invokes

-- SOURCE ORDER: the places stay
module _ (move : PortRef → PortRef) where
  placed_in-moved : (a : Owned) (list : List Owned) → placed_in (moved_owned move a) (map (moved_owned move) list) ≡ map (moved_owned move) (placed_in a list)
  placed_in-moved a [] = refl
  placed_in-moved a (b ∷ rest) = by (no_later a.assign.place b.assign.place) (placed_in-moved a rest)
    where
      by : (t : Bool) → placed_in (moved_owned move a) (map (moved_owned move) rest) ≡ map (moved_owned move) (placed_in a rest)
          → (if t then moved_owned move a ∷ moved_owned move b ∷ map (moved_owned move) rest else moved_owned move b ∷ placed_in (moved_owned move a) (map (moved_owned move) rest))
          ≡ map (moved_owned move) (if t then a ∷ b ∷ rest else b ∷ placed_in a rest)
      by true h = refl
      by false h = ap (λ z. moved_owned move b ∷ z) h

  by_place-moved : (list : List Owned) → by_place (map (moved_owned move) list) ≡ map (moved_owned move) (by_place list)
  by_place-moved [] = refl
  by_place-moved (a ∷ rest) = ap (placed_in (moved_owned move a)) (by_place-moved rest) ∙ placed_in-moved a (by_place rest)

-- WHAT IS ASKED OF A PORT is the same of the renamed one
module _ {part : PlainComponent} {c : ℕ} where
  width_at : {at to : At} → AtShared part c at to → (p : ℕ) → cell_width to p ≡ cell_width at p
  width_at no_cell p = refl
  width_at (a_row q kind) p = refl
  width_at (a_part k child twin kind e) p = ap (λ (x : PlainComponent). part_width x (part_port x p)) e

  output_at : {at to : At} → AtShared part c at to → (p : ℕ) → is_cell_output to p ≡ is_cell_output at p
  output_at no_cell p = refl
  output_at (a_row q kind) p = refl
  output_at (a_part k child twin kind e) p = ap (λ (x : PlainComponent). is_part_output (part_port x p)) e

  enable_at : {at to : At} → AtShared part c at to → (p : ℕ) → enables_at to p ≡ enables_at at p
  enable_at no_cell p = refl
  enable_at (a_row q kind) p = refl
  enable_at (a_part k child twin kind e) p = refl

  instance_at : {at to : At} → AtShared part c at to → is_instance to ≡ is_instance at
  instance_at no_cell = refl
  instance_at (a_row q kind) = refl
  instance_at (a_part k child twin kind e) = refl

  latency_there : {at to : At} → AtShared part c at to → latency_at to ≡ latency_at at
  latency_there no_cell = refl
  latency_there (a_row q kind) = refl
  latency_there (a_part k child twin kind e) = ap (λ (x : PlainComponent). x.latency) e

  pub like_at : {at to : At} → AtShared part c at to → AtLike at to
  like_at no_cell = both_nothing
  like_at (a_row q kind) = same_row (row_of q)
  like_at (a_part k child twin kind e) = like_child child twin (λ p. sym (ap (λ x. part_port x p) e))

module _ {i j : Instance} (shares : Shares i j) where
  abbrev pub new_port : PortRef → PortRef
  new_port = renamed (new_cell (part_of i))

  pub width_of-shared : (p : PortRef) → width_of j (new_port p) ≡ width_of i p
  width_of-shared (ports.Cell c p) = width_at (shares.cells c) p
  width_of-shared (ports.Input n) = ap (λ (x : PlainComponent). declared_width x.inputs n) shares.part
  width_of-shared (ports.Output n) = ap (λ (x : PlainComponent). declared_width x.outputs n) shares.part
  width_of-shared (ports.Done g) = refl
  width_of-shared (ports.Literal w v) = refl

  pub written_width-shared : (p : PortRef) → written_width j (new_port p) ≡ written_width i p
  written_width-shared (ports.Cell c p) = width_of-shared (ports.Cell c p)
  written_width-shared (ports.Input n) = width_of-shared (ports.Input n)
  written_width-shared (ports.Output n) = width_of-shared (ports.Output n)
  written_width-shared (ports.Done g) = refl
  written_width-shared (ports.Literal w v) = refl

  pub is_source_only-shared : (p : PortRef) → is_source_only j (new_port p) ≡ is_source_only i p
  is_source_only-shared (ports.Cell c p) = output_at (shares.cells c) p
  is_source_only-shared (ports.Input n) = refl
  is_source_only-shared (ports.Output n) = refl
  is_source_only-shared (ports.Done g) = refl
  is_source_only-shared (ports.Literal w v) = refl

  pub is_target_only-shared : (p : PortRef) → is_target_only j (new_port p) ≡ is_target_only i p
  is_target_only-shared (ports.Cell c p) = ap not (output_at (shares.cells c) p)
  is_target_only-shared (ports.Input n) = refl
  is_target_only-shared (ports.Output n) = refl
  is_target_only-shared (ports.Done g) = refl
  is_target_only-shared (ports.Literal w v) = refl

  pub is_primitive_enable-shared : (p : PortRef) → is_primitive_enable j (new_port p) ≡ is_primitive_enable i p
  is_primitive_enable-shared (ports.Cell c p) = enable_at (shares.cells c) p
  is_primitive_enable-shared (ports.Input n) = refl
  is_primitive_enable-shared (ports.Output n) = refl
  is_primitive_enable-shared (ports.Done g) = refl
  is_primitive_enable-shared (ports.Literal w v) = refl

  pub is_part_port-shared : (p : PortRef) → is_part_port j (new_port p) ≡ is_part_port i p
  is_part_port-shared (ports.Cell c p) = instance_at (shares.cells c)
  is_part_port-shared (ports.Input n) = refl
  is_part_port-shared (ports.Output n) = refl
  is_part_port-shared (ports.Done g) = refl
  is_part_port-shared (ports.Literal w v) = refl

  pub is_static_port-shared : (p : PortRef) → is_static_port j (new_port p) ≡ is_static_port i p
  is_static_port-shared (ports.Cell c p) = ap is_some (latency_there (shares.cells c))
  is_static_port-shared (ports.Input n) = refl
  is_static_port-shared (ports.Output n) = refl
  is_static_port-shared (ports.Done g) = refl
  is_static_port-shared (ports.Literal w v) = refl

  pub cells_alike : (c : ℕ) → AtLike (cell_at (cells_of i) c) (cell_at (cells_of j) (new_cell (part_of i) c))
  cells_alike c = like_at (shares.cells c)

  -- GROUPS
  pub group_at-shared : (g : ℕ) → group_at (part_of j) g ≡ moved_group new_port (group_at (part_of i) g)
  group_at-shared g = ap (λ (x : PlainComponent). group_at x g) shares.part ∙ moved_group_at new_port (part_of i).groups g

  -- STATIC INVOKES
  pub of_invokes : {A : Type 0} (read : Option PlainInvoke → A) → ((v : PlainInvoke) → read (Some (shared_invoke (new_cell (part_of i)) v)) ≡ read (Some v)) → (k : ℕ) → read (invoke_at (part_of j) k) ≡ read (invoke_at (part_of i) k)
  of_invokes read each k = ap (λ (x : PlainComponent). read (invoke_at x k)) shares.part ∙ of_invoke (part_of i) read each k

  -- where the word static stands at them
  pub words-shared : (k : ℕ) → (is_written (slice_get (part_of j).invokes k) ≡ is_written (slice_get (part_of i).invokes k)) × (is_timed (slice_get (part_of j).invokes k) ≡ is_timed (slice_get (part_of i).invokes k))
  words-shared k = (of_invokes is_written (λ v. refl) k, of_invokes is_timed (λ v. refl) k)

  -- one of the shared instance is one of the instance
  pub invoke_back : (k : ℕ) (w : PlainInvoke) → invoke_at (part_of j) k ≡ Some w → (v : PlainInvoke) × (invoke_at (part_of i) k ≡ Some v) × (shared_invoke (new_cell (part_of i)) v ≡ w)
  invoke_back k w at = map_some (shared_invoke (new_cell (part_of i))) (invoke_at (part_of i) k) w (sym (invoke_at-shared (part_of i) k) ∙ ap (λ x. invoke_at x k) (sym shares.part) ∙ at)

  pub group_length-shared : (g : ℕ) → group_length (part_of j) g ≡ group_length (part_of i) g
  group_length-shared g = ap (λ (x : PlainGroup). kind_length x.kind) (group_at-shared g)

  pub own_groups : (part_of j).groups ≡ map (moved_group new_port) (part_of i).groups
  own_groups = ap (λ (x : PlainComponent). x.groups) shares.part

  pub own_assigns : (g : ℕ) → (group_at (part_of j) g).assigns ≡ map (moved_assign new_port) (group_at (part_of i) g).assigns
  own_assigns g = ap (λ (x : PlainGroup). x.assigns) (group_at-shared g)

  pub own_always : (part_of j).always ≡ map (moved_assign new_port) (part_of i).always
  own_always = ap (λ (x : PlainComponent). x.always) shares.part

  -- LISTS
  pub source_order-shared : source_order (part_of j) ≡ map (moved_owned new_port) (source_order (part_of i))
  source_order-shared =
      ap source_order shares.part ∙ ap by_place (assigns_of-moved new_port (part_of i) (shared_part (part_of i)) refl refl) ∙ by_place-moved new_port (assigns_of (part_of i))

  pub statements_in-shared : statements_in (part_of j) ≡ map (moved_visited new_port) (statements_in (part_of i))
  statements_in-shared = ap statements_in shares.part ∙ visit-moved new_port Dynamic (part_of i).control
