-- What is known of a group, by its row.
use Rattle.std.proofs.Common.{◌≡◌, ℕ, zero, suc, ◌<◌, Bool, false, ◌||◌, true, List, [], ◌∷◌, length, get_or, Option, Some, inl, inr, nat_eq, refl, sym, ap, ◌∙◌, subst, arith}
use Rattle.cx_meaning.specs.declared.ports.PortRef.{PortRef}
use Rattle.cx_meaning.specs.declared.ports.PortRef.TheVariants as ports
use Rattle.cx_meaning.specs.Designs.{PlainAssign, PlainGroup, PlainDesign, PlainComponent, component_at, group_at, no_group}
use Rattle.cx_meaning.specs.Instances.{Instance, Path, part_of, instance_at, paths_of, tree_of}
use Rattle.cx_text.specs.Members.{In}
use Rattle.cx_meaning.specs.Islands.{kind_length, group_length}
use Rattle.cx_meaning.specs.Control.{targets_cell, assigns_drive, group_drives}
use Rattle.cx_state.specs.Tables.{IsNumber, IsTable, row_at}
use Rattle.cx_turns.specs.declared.tables.GroupRow.{GroupRow}
use Rattle.cx_turns.specs.GroupRows.{AreGroups}
use Rattle.cx_turns.specs.Groups.{IsGroupOf, IsGroupRow, HasLength, ListGroup, ListWithin}
use Rattle.cx_turns.specs.declared.tables.GroupTable.{GroupTable}
use Rattle.cx_state.specs.declared.tables.InstanceRow.{InstanceRow}
use Rattle.cx_eval_cycle.specs.Passes.{IsAscending, listed_in}
use Rattle.cx_rules.specs.Ports.{component_of}
use Rattle.cx_rules.specs.Wellformed.{IsDesign, IsThere}
use Rattle.cx_design.specs.declared.components.Component.{Component}
use Rattle.cx_design.specs.declared.groups.Group.{Group}
use Rattle.cx_design.specs.PlainForms.{plain_component, plain_group}
use Rattle.std.specs.List.{slice_get}
use Rattle.std.specs.Prelude.{All}
use Rattle.std.proofs.lemmas.Bool.{eq-eqb, or_right}
use Rattle.std.proofs.lemmas.List.{get_or-map, length-map}
use Rattle.cx_meaning.proofs.InstancesLemmas.{just_true}
use Rattle.cx_text.proofs.ListLaws.{there_below, get_same}
use Rattle.cx_meaning.proofs.DesignsLemmas.{same_part}
use Rattle.std.proofs.lemmas.Option.{slice_get-get_or}

pub row_lists : (d : PlainDesign) (n g : ℕ) (row : GroupRow) → IsGroupRow d n g row → ListGroup d n g row.cells.items
row_lists d n g row is path c number = (is path number).cells c

-- a cell that assignments drive is that of a target
cell_target : (q : PortRef) (c : ℕ) → targets_cell q c ≡ true → (p : ℕ) × (q ≡ ports.Cell c p)
cell_target (ports.Cell e p) c t = (p, ap (λ x. ports.Cell x p) (just_true e c t))
cell_target (ports.Input m) c t = absurd (let f : false ≡ true = t in cc)
cell_target (ports.Output m) c t = absurd (let f : false ≡ true = t in cc)
cell_target (ports.Done h) c t = absurd (let f : false ≡ true = t in cc)
cell_target (ports.Literal w v) c t = absurd (let f : false ≡ true = t in cc)

abbrev Driver : List PlainAssign → ℕ → Type 0
Driver list c = (a : PlainAssign) × (p : ℕ) × In list a × (a.target ≡ ports.Cell c p)

driver : (list : List PlainAssign) (c : ℕ) → assigns_drive list c ≡ true → Driver list c
driver [] c e = absurd (let f : false ≡ true = e in cc)
driver (a ∷ rest) c e = by_case (targets_cell a.target c) refl e (driver rest c)
  where
    by_case : (b : Bool) → targets_cell a.target c ≡ b → (b || assigns_drive rest c) ≡ true → (assigns_drive rest c ≡ true → Driver rest c) → Driver (a ∷ rest) c
    by_case true t e later = let r = cell_target a.target c t in (a, r.0, inl refl, r.1)
    by_case false t e later = let r = later e in (r.0, r.1, inr r.2, r.3)

all_listed : (P : ℕ → Type 0) (xs : List ℕ) → ((c : ℕ) → listed_in xs c ≡ true → P c) → All P xs
all_listed P [] h k d lt = absurd (omega arith)
all_listed P (x ∷ xs) h zero d lt = h x (ap (λ b. b || listed_in xs x) (eq-eqb x x refl))
all_listed P (x ∷ xs) h (suc k) d lt = all_listed P xs (λ c e. h c (or_right (nat_eq x c) (listed_in xs c) e)) k d (omega arith)

-- a group of a design drives ports of cells that are there
pub row_within : (d : PlainDesign) → IsDesign d → (rows : List InstanceRow) (children : List ℕ) → IsTable d rows children → (n g : ℕ) (row : GroupRow) → IsGroupOf d n g → IsGroupRow d n g row → ListWithin d n row.cells.items
row_within d design rows children table n g row is_group is path number =
    all_listed (λ c. c < length (part_of (instance_at (tree_of d) path)).cells) row.cells.items
    (λ c e.
    let at : Instance = component_of d (row_at rows n).component in
    let same : instance_at (tree_of d) path ≡ at = table.component n path number in
    let part : part_of at ≡ component_at d (row_at rows n).component = same_part d (length d.components) (row_at rows n).component in
    let there : (row_at rows n).component < length d.components = table.there n (subst (λ m. n < m) (sym table.count) (there_below (paths_of (tree_of d)) n path number)) in
    let drives : group_drives (component_at d (row_at rows n).component) g c ≡ true = subst (λ x. group_drives x g c ≡ true) (ap part_of same ∙ part) (sym ((is path number).cells c) ∙ e) in
    let group : g < length (component_at d (row_at rows n).component).groups = subst (λ (x : PlainComponent). g < length x.groups) (ap part_of same ∙ part) (is_group path number) in
    let r = driver (group_at (component_at d (row_at rows n).component) g).assigns c drives in
    let target : IsThere at r.0.target = ((design.components (row_at rows n).component there).assigns (Some g) r.0 (group, r.2)).target in
    let cell : IsThere at (ports.Cell c r.1) = subst (IsThere at) r.3 target in
    subst (λ (i : Instance). c < length (part_of i).cells) (sym same) cell.0)

-- the row that was read, from a table with one for each component and each group
pub row_read : (d : PlainDesign) (rows : List InstanceRow) (children : List ℕ) (tables : List GroupTable) → IsTable d rows children → AreGroups d rows tables → (n g : ℕ) (at : InstanceRow) (table : GroupTable) (row : GroupRow)
    → n < length (paths_of (tree_of d)) → IsGroupOf d n g → at ≡ get_or rows n at → table ≡ get_or tables at.component table → row ≡ get_or table.rows.items g row → IsGroupRow d n g row
row_read d rows children tables is_table groups n g at table row lt is_group is_at is_read is_row path number =
    let inside : n < length rows = subst (λ m. n < m) (sym is_table.count) lt in
    let same : row_at rows n ≡ at = get_same rows n _ at inside ∙ sym is_at in
    let there : (row_at rows n).component < length tables = subst (λ m. (row_at rows n).component < m) (sym groups.count) (is_table.there n inside) in
    let found : slice_get tables (row_at rows n).component ≡ Some table =
    slice_get-get_or tables (row_at rows n).component table there ∙ ap (λ (r : InstanceRow). Some (get_or tables r.component table)) same ∙ ap (λ t. Some t) (sym is_read) in
    let within : g < length table.rows.items = subst (λ m. g < m) (sym (groups.each n path table number found)) (is_group path number) in
    groups.right n g path table row number found (slice_get-get_or table.rows.items g row within ∙ ap (λ r. Some r) (sym is_row))

pub table_there : (d : PlainDesign) (rows : List InstanceRow) (children : List ℕ) (tables : List GroupTable) → IsTable d rows children → AreGroups d rows tables → (n : ℕ) (at : InstanceRow) → n < length (paths_of (tree_of d)) → at ≡ get_or rows n at → at.component < length tables
table_there d rows children tables is_table groups n at lt is_at =
    let inside : n < length rows = subst (λ m. n < m) (sym is_table.count) lt in
    let same : row_at rows n ≡ at = get_same rows n _ at inside ∙ sym is_at in
    subst (λ (r : InstanceRow). r.component < length tables) same (subst (λ m. (row_at rows n).component < m) (sym groups.count) (is_table.there n inside))

pub group_there : (d : PlainDesign) (rows : List InstanceRow) (children : List ℕ) (tables : List GroupTable) → IsTable d rows children → AreGroups d rows tables → (n g : ℕ) (at : InstanceRow) (table : GroupTable)
    → n < length (paths_of (tree_of d)) → IsGroupOf d n g → at ≡ get_or rows n at → table ≡ get_or tables at.component table → g < length table.rows.items
group_there d rows children tables is_table groups n g at table lt is_group is_at is_read =
    let inside : n < length rows = subst (λ m. n < m) (sym is_table.count) lt in
    let same : row_at rows n ≡ at = get_same rows n _ at inside ∙ sym is_at in
    let there : (row_at rows n).component < length tables = subst (λ m. (row_at rows n).component < m) (sym groups.count) (is_table.there n inside) in
    let found : slice_get tables (row_at rows n).component ≡ Some table =
    slice_get-get_or tables (row_at rows n).component table there ∙ ap (λ (r : InstanceRow). Some (get_or tables r.component table)) same ∙ ap (λ t. Some t) (sym is_read) in
    let path : Path = get_or (paths_of (tree_of d)) n [] in
    let number : IsNumber d n path = slice_get-get_or (paths_of (tree_of d)) n [] lt in
    subst (λ m. g < m) (sym (groups.each n path table number found)) (is_group path number)

pub row_ascends : (d : PlainDesign) (n g : ℕ) (row : GroupRow) → n < length (paths_of (tree_of d)) → IsGroupRow d n g row → IsAscending row.cells.items
row_ascends d n g row lt is = (is (get_or (paths_of (tree_of d)) n []) (slice_get-get_or (paths_of (tree_of d)) n [] lt)).ascending

-- the group that was read, of the component that was read
pub group_inside : (d : PlainDesign) (rows : List InstanceRow) (children : List ℕ) → IsTable d rows children → (n g : ℕ) (at : InstanceRow) (part : Component) → n < length (paths_of (tree_of d)) → IsGroupOf d n g → at ≡ get_or rows n at
    → plain_component part ≡ component_at d at.component → g < length part.groups.items
group_inside d rows children table n g at part lt is_group is_at is_part =
    let path : Path = get_or (paths_of (tree_of d)) n [] in
    let number : IsNumber d n path = slice_get-get_or (paths_of (tree_of d)) n [] lt in
    let inside : n < length rows = subst (λ m. n < m) (sym table.count) lt in
    let row : row_at rows n ≡ at = get_same rows n _ at inside ∙ sym is_at in
    let same : part_of (instance_at (tree_of d) path) ≡ plain_component part =
    ap part_of (table.component n path number) ∙ same_part d (length d.components) (row_at rows n).component ∙ ap (λ (r : InstanceRow). component_at d r.component) row ∙ sym is_part in
    subst (λ m. g < m) (length-map part.groups.items plain_group) (subst (λ (x : PlainComponent). g < length x.groups) same (is_group path number))

pub length_read : (d : PlainDesign) (rows : List InstanceRow) (children : List ℕ) → IsTable d rows children → (n g : ℕ) (at : InstanceRow) (part : Component) (group : Group) (cycles : Option ℕ) → n < length (paths_of (tree_of d)) → at ≡ get_or rows n at
    → plain_component part ≡ component_at d at.component → g < length part.groups.items → group ≡ get_or part.groups.items g group → cycles ≡ kind_length group.kind → HasLength d n g cycles
length_read d rows children table n g at part group cycles lt is_at is_part inside is_group is path number =
    let here : n < length rows = subst (λ m. n < m) (sym table.count) lt in
    let row : row_at rows n ≡ at = get_same rows n _ at here ∙ sym is_at in
    let same : plain_component part ≡ part_of (instance_at (tree_of d) path) =
    is_part ∙ sym (ap part_of (table.component n path number) ∙ same_part d (length d.components) (row_at rows n).component ∙ ap (λ (r : InstanceRow). component_at d r.component) row) in
    let found : group_at (plain_component part) g ≡ plain_group group = get_or-map plain_group part.groups.items g group no_group inside ∙ ap plain_group (sym is_group) in
    is ∙ ap (λ (x : PlainGroup). kind_length x.kind) (sym found) ∙ ap (λ x. group_length x g) same
