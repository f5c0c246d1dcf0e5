-- THE NAMES OF A SHARED DESIGN'S PORTS: a port of a cell has the name of that port of the cell that stands for the cell.
use Rattle.std.proofs.Common.{◌≡◌, ℕ, zero, suc, ◌+◌, ⊎_elim, Bool, true, false, List, [], ◌∷◌, ◌++◌, codes, length, refl, sym, ap, ◌∙◌, subst, arith}
use Rattle.std.specs.Prelude.{if◌then◌else◌}
use Rattle.std.proofs.lemmas.Bool.{cases_lt}
use Rattle.std.proofs.lemmas.List.{append_assoc}
use Rattle.cx_prim.specs.Rows.{Row}
use Rattle.cx_prim.specs.Table.{row_of}
use Rattle.cx_meaning.specs.declared.ports.PortRef.{PortRef}
use Rattle.cx_meaning.specs.declared.ports.PortRef.TheVariants as ports
use Rattle.cx_meaning.specs.Answers as answers
use Rattle.cx_meaning.specs.Cycles.{Fault}
use Rattle.cx_meaning.specs.Designs.{PlainKind, OfPrimitive, OfComponent, PlainCell, PlainGroup, PlainComponent, PlainDesign, component_at, group_at, no_component}
use Rattle.cx_meaning.specs.Instances.{Instance, Node, Cells, no_cells, a_primitive, an_instance, At, Nothing, OfRow, OfInstance, part_of, cell_at, cells_for, tree_within, tree_of, Path, instance_at, child_at}
use Rattle.cx_meaning.specs.Sights.{part_port}
use Rattle.cx_meaning.proofs.DesignsLemmas.{same_part}
use Rattle.cx_meaning.proofs.InstancesLemmas.{here, nowhere, row_instance, nothing_instance, instance_is, child_is, at_kind}
use Rattle.cx_rules.specs.Ports.{declared_name, part_port_name, cell_port_name, cell_name}
use Rattle.cx_rules.specs.FullPaths.{cell_path, own_path, names_along, full_path}
use Rattle.cx_rewrites.specs.Renaming.{renamed}
use Rattle.cx_rewrites.specs.Standing.{renumbered, renumbered_below}
use Rattle.cx_rewrites.proofs.MovedLists.{moved_group_at}
use Rattle.cx_flattening.specs.Told.{told, Faulted}
use Rattle.cx_sharing.specs.Following.{shared_fault}
use Rattle.cx_sharing.specs.Giving.{keeper, stays, new_cell}
use Rattle.cx_sharing.specs.SharedDesign.{remaining, shared_part, shared_design}
use Rattle.cx_sharing.proofs.KeptLemmas.{keeper_stays}
use Rattle.cx_sharing.proofs.KeeperLemmas.{keeper_kind, keeper_within, keeper_past}
use Rattle.cx_sharing.proofs.RemainingLemmas.{counted, from_zero, cell_is}
use Rattle.cx_sharing.proofs.SharedParts.{as_many_parts}
use Rattle.cx_sharing.proofs.TwinLemmas.{shared_component, at_new_number}
use Rattle.cx_rewritten.specs.Alike.{kept_fault}

-- NAMES of the cells that are left
name_counted : (set : ℕ → Bool) (k : ℕ) (cells : List PlainCell) (c : ℕ) → set (k + c) ≡ true → cell_name (remaining set k cells) (counted set k c) ≡ cell_name cells c
name_counted set k [] c on = refl
name_counted set k (cell ∷ cells) zero on = by (set k) (let first : k ≡ k + 0 = omega arith in ap set first ∙ on)
  where
    by : (b : Bool) → b ≡ true → cell_name (if b then cell ∷ remaining set (suc k) cells else remaining set (suc k) cells) 0 ≡ cell.name
    by true e = refl
    by false e = absurd (cc)
name_counted set k (cell ∷ cells) (suc c) on = by (set k) (let there : suc k + c ≡ k + suc c = omega arith in name_counted set (suc k) cells c (ap set there ∙ on))
  where
    by : (b : Bool) → cell_name (remaining set (suc k) cells) (counted set (suc k) c) ≡ cell_name cells c
        → cell_name (if b then cell ∷ remaining set (suc k) cells else remaining set (suc k) cells) (if b then suc (counted set (suc k) c) else counted set (suc k) c) ≡ cell_name cells c
    by true e = e
    by false e = e

cell_name-new : (part : PlainComponent) (c : ℕ) → cell_name (remaining (stays part) 0 part.cells) (new_cell part c) ≡ cell_name part.cells (keeper part c)
cell_name-new part c =
    let first : 0 + keeper part c ≡ keeper part c = omega arith in
    ap (cell_name (remaining (stays part) 0 part.cells)) (sym (from_zero (stays part) (keeper part c)))
    ∙ name_counted (stays part) 0 part.cells (keeper part c) (ap (stays part) first ∙ keeper_stays part c)

-- ONE STEP of a path: to a child, or to where nothing is
abbrev none : Instance
none = Node no_component no_cells

abbrev NoChild : At → Type 0
NoChild at = (child : Instance) → at ≡ OfInstance child → ⊥

no_nothing : NoChild Nothing
no_nothing = nothing_instance

no_row : (row : Row) → NoChild (OfRow row)
no_row = row_instance

is_no_child : {x at : At} → x ≡ at → NoChild at → NoChild x
is_no_child e none child f = none child (sym e ∙ f)

child_at-none : (cells : Cells) (c : ℕ) → NoChild (cell_at cells c) → (path : Path) → child_at cells c path ≡ instance_at none path
child_at-none no_cells c h path = sym (nowhere path)
child_at-none (a_primitive row rest) zero h path = sym (nowhere path)
child_at-none (a_primitive row rest) (suc c) h path = child_at-none rest c h path
child_at-none (an_instance child rest) zero h path = absurd (h child refl)
child_at-none (an_instance child rest) (suc c) h path = child_at-none rest c h path

full_path-step : (part : PlainComponent) (cells : Cells) (c : ℕ) (child : Instance) → ((path : Path) → child_at cells c path ≡ instance_at child path) → (path : Path) (port : PortRef)
    → full_path (Node part cells) (c ∷ path) port ≡ cell_name part.cells c ++ codes "." ++ full_path child path port
full_path-step part cells c child at path port =
    ap (λ i. cell_name part.cells c ++ codes "." ++ names_along i path ++ own_path (child_at cells c path) port) (at [] ∙ here child)
    ∙ ap (λ i. cell_name part.cells c ++ codes "." ++ names_along child path ++ own_path i port) (at path)
    ∙ append_assoc (cell_name part.cells c ++ codes ".") (names_along child path) (own_path (instance_at child path) port)

-- where nothing is, no cell has a name
own_path-none : (cell : ℕ → ℕ) (port : PortRef) → own_path none (renamed cell port) ≡ own_path none port
own_path-none cell (ports.Cell c p) = refl
own_path-none cell (ports.Input n) = refl
own_path-none cell (ports.Output n) = refl
own_path-none cell (ports.Done g) = refl
own_path-none cell (ports.Literal w v) = refl

full_path-none : (cell : ℕ → ℕ) (path : Path) (port : PortRef) → full_path none path (renamed cell port) ≡ full_path none path port
full_path-none cell path port =
    ap (λ i. names_along none path ++ own_path i (renamed cell port)) (nowhere path)
    ∙ ap (λ name. names_along none path ++ name) (own_path-none cell port)
    ∙ ap (λ i. names_along none path ++ own_path i port) (sym (nowhere path))

-- A PORT OF i BY OTHER NUMBERS of its cells and of those that lead to it, as x names it
module _ (number : PlainComponent → ℕ → ℕ) where
  abbrev named_in : Instance → Instance → Path → PortRef → List ℕ
  named_in x i path port = full_path x (renumbered number i path) (renamed (number (part_of (instance_at i path))) port)

  below-child : (cells : Cells) (c : ℕ) (child : Instance) (path : Path) → cell_at cells c ≡ OfInstance child → renumbered_below number cells c path ≡ renumbered number child path
  below-child no_cells c child path e = absurd (nothing_instance child e)
  below-child (a_primitive row rest) zero child path e = absurd (row_instance row child e)
  below-child (a_primitive row rest) (suc c) child path e = below-child rest c child path e
  below-child (an_instance other rest) zero child path e = ap (λ i. renumbered number i path) (instance_is other child e)
  below-child (an_instance other rest) (suc c) child path e = below-child rest c child path e

  below-none : (cells : Cells) (c : ℕ) (path : Path) → NoChild (cell_at cells c) → renumbered_below number cells c path ≡ path
  below-none no_cells c path h = refl
  below-none (a_primitive row rest) zero path h = refl
  below-none (a_primitive row rest) (suc c) path h = below-none rest c path h
  below-none (an_instance child rest) zero path h = absurd (h child refl)
  below-none (an_instance child rest) (suc c) path h = below-none rest c path h

  module _ (part other : PlainComponent) (cells kin : Cells) (c : ℕ) (path : Path) (port : PortRef) where
    named-child : (child twin : Instance) → cell_at cells c ≡ OfInstance child → cell_at kin (number part c) ≡ OfInstance twin
        → named_in (Node other kin) (Node part cells) (c ∷ path) port ≡ cell_name other.cells (number part c) ++ codes "." ++ named_in twin child path port
    named-child child twin at there =
        ap (λ rest. full_path (Node other kin) (number part c ∷ rest) (renamed (number (part_of (child_at cells c path))) port)) (below-child cells c child path at)
        ∙ ap (λ i. full_path (Node other kin) (number part c ∷ renumbered number child path) (renamed (number (part_of i)) port)) (child_is cells c child at path)
        ∙ full_path-step other kin (number part c) twin (child_is kin (number part c) twin there) (renumbered number child path) (renamed (number (part_of (instance_at child path))) port)

    named-none : NoChild (cell_at cells c) → NoChild (cell_at kin (number part c))
        → named_in (Node other kin) (Node part cells) (c ∷ path) port ≡ cell_name other.cells (number part c) ++ codes "." ++ full_path none path port
    named-none at there =
        ap (λ rest. full_path (Node other kin) (number part c ∷ rest) (renamed (number (part_of (child_at cells c path))) port)) (below-none cells c path at)
        ∙ full_path-step other kin (number part c) none (child_at-none kin (number part c) there) path (renamed (number (part_of (child_at cells c path))) port)
        ∙ ap (λ name. cell_name other.cells (number part c) ++ codes "." ++ name) (full_path-none (number (part_of (child_at cells c path))) path port)

-- THE SAME NAME: j names each port by the new numbers as i does by the numbers of the cells that stand for its cells
abbrev AreNamed : Instance → Instance → Type 0
AreNamed i j = (path : Path) (port : PortRef) → named_in new_cell j i path port ≡ named_in keeper i i path port

-- what stands at a cell, and at its new number
data Beside : At → At → Type 0 where
  nothing_there : Beside Nothing Nothing
  same_rows : (row : Row) → Beside (OfRow row) (OfRow row)
  named_alike : (child twin : Instance) → part_of twin ≡ shared_part (part_of child) → AreNamed child twin → Beside (OfInstance child) (OfInstance twin)

cell_port_name-beside : {at to : At} → Beside at to → (p : ℕ) → cell_port_name to p ≡ cell_port_name at p
cell_port_name-beside nothing_there p = refl
cell_port_name-beside (same_rows row) p = refl
cell_port_name-beside (named_alike child twin same named) p = ap (λ (x : PlainComponent). part_port_name x (part_port x p)) same

-- AN INSTANCE, whose children are named so
module _ (part other : PlainComponent) (cells kin : Cells) (same : other ≡ shared_part part) (kept : (c : ℕ) → cell_at cells (keeper part c) ≡ cell_at cells c)
    (beside : (c : ℕ) → Beside (cell_at cells c) (cell_at kin (new_cell part c))) where
  abbrev i : Instance
  i = Node part cells

  abbrev j : Instance
  j = Node other kin

  name_there : (c : ℕ) → cell_name other.cells (new_cell part c) ≡ cell_name part.cells (keeper part c)
  name_there c = ap (λ (x : PlainComponent). cell_name x.cells (new_cell part c)) same ∙ cell_name-new part c

  own_named : (port : PortRef) → own_path j (renamed (new_cell part) port) ≡ own_path i (renamed (keeper part) port)
  own_named (ports.Cell c p) =
      ap (λ name. cell_path name (cell_port_name (cell_at kin (new_cell part c)) p)) (name_there c)
      ∙ ap (cell_path (cell_name part.cells (keeper part c))) (cell_port_name-beside (beside c) p ∙ ap (λ at. cell_port_name at p) (sym (kept c)))
  own_named (ports.Input n) = ap (λ (x : PlainComponent). declared_name x.inputs n) same
  own_named (ports.Output n) = ap (λ (x : PlainComponent). declared_name x.outputs n) same
  own_named (ports.Done g) =
      ap (λ (x : PlainComponent). (group_at x g).name ++ codes "[done]") same ∙ ap (λ (x : PlainGroup). x.name ++ codes "[done]") (moved_group_at (renamed (new_cell part)) part.groups g)
  own_named (ports.Literal w v) = refl

  none_named : (c : ℕ) (path : Path) (port : PortRef) → NoChild (cell_at cells c) → NoChild (cell_at cells (keeper part c)) → NoChild (cell_at kin (new_cell part c))
      → named_in new_cell j i (c ∷ path) port ≡ named_in keeper i i (c ∷ path) port
  none_named c path port at stays there =
      named-none new_cell part other cells kin c path port at there
      ∙ ap (λ name. name ++ codes "." ++ full_path none path port) (name_there c)
      ∙ sym (named-none keeper part part cells cells c path port at stays)

  below_named : (c : ℕ) (path : Path) (port : PortRef) {at to : At} → Beside at to → cell_at cells c ≡ at → cell_at cells (keeper part c) ≡ at → cell_at kin (new_cell part c) ≡ to
      → named_in new_cell j i (c ∷ path) port ≡ named_in keeper i i (c ∷ path) port
  below_named c path port nothing_there at stays there = none_named c path port (is_no_child at no_nothing) (is_no_child stays no_nothing) (is_no_child there no_nothing)
  below_named c path port (same_rows row) at stays there = none_named c path port (is_no_child at (no_row row)) (is_no_child stays (no_row row)) (is_no_child there (no_row row))
  below_named c path port (named_alike child twin part_same named) at stays there =
      named-child new_cell part other cells kin c path port child twin at there
      ∙ ap (λ name. name ++ codes "." ++ named_in new_cell twin child path port) (name_there c)
      ∙ ap (λ name. cell_name part.cells (keeper part c) ++ codes "." ++ name) (named path port)
      ∙ sym (named-child keeper part part cells cells c path port child child at stays)

  instance_named : AreNamed i j
  instance_named [] port = own_named port
  instance_named (c ∷ path) port = below_named c path port (beside c) refl (kept c) refl

-- THE CELLS of a component, of trees that are named so
cell_at-keeper : (part : PlainComponent) (f : ℕ → Instance) (c : ℕ) → cell_at (cells_for f part.cells) (keeper part c) ≡ cell_at (cells_for f part.cells) c
cell_at-keeper part f c = ⊎_elim
    (λ less. cell_is f part.cells (keeper part c) (keeper_within part c less) ∙ ap (at_kind f) (keeper_kind part c) ∙ sym (cell_is f part.cells c less))
    (λ past. ap (cell_at (cells_for f part.cells)) (keeper_past part c past))
    (cases_lt c (length part.cells))

module _ (part : PlainComponent) (f g : ℕ → Instance) (part_same : (k : ℕ) → part_of (g k) ≡ shared_part (part_of (f k))) (named : (k : ℕ) → AreNamed (f k) (g k)) where
  of_kind : (kind : PlainKind) → Beside (at_kind f kind) (at_kind g kind)
  of_kind (OfPrimitive p) = same_rows (row_of p)
  of_kind (OfComponent k) = named_alike (f k) (g k) (part_same k) (named k)

  cells_beside : (c : ℕ) → Beside (cell_at (cells_for f part.cells) c) (cell_at (cells_for g (remaining (stays part) 0 part.cells)) (new_cell part c))
  cells_beside c = at_new_number part f g Beside nothing_there c (λ kind e. of_kind kind)

-- THE TREES of a design and of the shared one
module _ (d : PlainDesign) where
  part_shared : (n k : ℕ) → part_of (tree_within (shared_design d) n k) ≡ shared_part (part_of (tree_within d n k))
  part_shared n k = same_part (shared_design d) n k ∙ shared_component d k ∙ ap shared_part (sym (same_part d n k))

  tree_named : (n k : ℕ) → AreNamed (tree_within d n k) (tree_within (shared_design d) n k)
  tree_named zero k = instance_named (component_at d k) (component_at (shared_design d) k) no_cells no_cells (shared_component d k) (λ c. refl) (λ c. nothing_there)
  tree_named (suc n) k =
      instance_named (component_at d k) (component_at (shared_design d) k) (cells_for (tree_within d n) (component_at d k).cells) (cells_for (tree_within (shared_design d) n) (component_at (shared_design d) k).cells)
      (shared_component d k) (cell_at-keeper (component_at d k) (tree_within d n))
      (λ c. subst (λ (x : PlainComponent). Beside (cell_at (cells_for (tree_within d n) (component_at d k).cells) c) (cell_at (cells_for (tree_within (shared_design d) n) x.cells) (new_cell (component_at d k) c)))
      (sym (shared_component d k)) (cells_beside (component_at d k) (tree_within d n) (tree_within (shared_design d) n) (part_shared n) (tree_named n) c))

  -- WHAT IS TOLD of a fault of the shared design
  pub told-shared : (f : Fault) (t : ℕ) → told (shared_design d) (answers.Fault (shared_fault (tree_of d) f) t) ≡ told d (answers.Fault (kept_fault (tree_of d) f) t)
  told-shared f t =
      ap (λ name. Faulted f.kind name t)
      (ap (λ n. full_path (tree_within (shared_design d) n d.main) (renumbered new_cell (tree_of d) f.path) (renamed (new_cell (part_of (instance_at (tree_of d) f.path))) f.port)) (as_many_parts d)
      ∙ tree_named (length d.components) d.main f.path f.port)
