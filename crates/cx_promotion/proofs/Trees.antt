-- THE TREES of a design and of the one that was made of it have one shape, and their instances stand beside each other.
use Rattle.std.proofs.Common.{◌≡◌, ℕ, zero, suc, ◌<◌, ◌≤◌, ⊎_elim, inl, inr, Bool, true, false, List, [], ◌∷◌, length, None, refl, sym, ap, ◌∙◌, subst, arith}
use Rattle.std.proofs.lemmas.Bool.{cases_lt}
use Rattle.std.proofs.lemmas.List.{get_or_past}
use Rattle.cx_text.proofs.MemberLaws.{number_in}
use Rattle.cx_text.specs.declared.rules.Rule.TheVariants.{NotASource, StaticGuard, StaticShape}
use Rattle.cx_prim.specs.Rows.{Row}
use Rattle.cx_prim.specs.Table.{PrimitiveRow, row_of}
use Rattle.cx_meaning.specs.declared.ports.PlacedPort.{PlacedPort}
use Rattle.cx_meaning.specs.Designs.{PlainKind, OfPrimitive, OfComponent, PlainCell, PlainComponent, PlainDesign, component_at, no_component}
use Rattle.cx_meaning.specs.Instances.{Instance, Node, Cells, no_cells, a_primitive, an_instance, Nothing, OfRow, part_of, cells_of, cell_at, add_cell, cells_for, tree_within, tree_of, Path, instance_at, child_at}
use Rattle.cx_meaning.specs.Active.{group, entries, Owned, source_order}
use Rattle.cx_text.specs.Members.{In}
use Rattle.cx_meaning.specs.Islands.{History, active_in, form_flat}
use Rattle.cx_meaning.proofs.DesignsLemmas.{same_part, group_there}
use Rattle.cx_meaning.proofs.IdleLemmas.{kept_within}
use Rattle.cx_meaning.proofs.InstancesLemmas.{row_is}
use Rattle.cx_rules.specs.Accepted.{IsAccepted}
use Rattle.cx_rules.specs.Circles.{IsAcyclic, AreAcyclic}
use Rattle.cx_rules.specs.Flat.{IsFlat}
use Rattle.cx_rules.specs.Items.{Range, Visited, statements_in, sources_of, ranges_of}
use Rattle.cx_rules.specs.Ports.{component_of, is_target_only, path_of}
use Rattle.cx_rules.specs.ShapeRules.{owner_length, is_bad_range, enabled_name}
use Rattle.cx_rules.specs.Spots.{AnAssign, AStatement}
use Rattle.cx_rules.specs.StaticControl.{is_in_static, may_stand}
use Rattle.cx_rules.specs.Wellformed.{StandsIn, IsAssign, IsForm, IsKind, IsCell, IsDesign}
use Rattle.cx_rules.proofs.CircleLemmas.{instance_acyclic, instance_group}
use Rattle.cx_laws.proofs.ApartLemmas.{entries_acyclic}
use Rattle.cx_frames.proofs.RuleLemmas.{IsKept, kept_instance}
use Rattle.cx_promotion.specs.Made.{no_groups, placed, empty, no_assigns, PartMade, DesignMade}
use Rattle.cx_promotion.proofs.Twins.{Twins, TwinCells}
use Rattle.cx_promotion.proofs.MadeBeside.{KindAt, no_cell, a_row, a_part, MadeBeside}
use Rattle.cx_rules.proofs.ForeignLemmas.{OwnerOf, continuous, of_group, owner_of}
use Rattle.cx_rules.proofs.ItemsLemmas.{bare_form}

-- TREES OF ONE SHAPE, whatever their components
abbrev pub Any : Instance → Instance → Type 0
Any i j = Unit {0}

-- with what stands beside at each path they are twins
module _ (Beside : Instance → Instance → Type 0) where
  mutual
    pub twins_by_path : (i j : Instance) → Twins Any i j → ((path : Path) → Beside (instance_at i path) (instance_at j path)) → Twins Beside i j
    twins_by_path (Node part cells) (Node other more) (u, hs) each = (each [], cells_by_path cells more hs (λ c path. each (c ∷ path)))

    cells_by_path : (cells more : Cells) → TwinCells Any cells more → ((c : ℕ) (path : Path) → Beside (child_at cells c path) (child_at more c path)) → TwinCells Beside cells more
    cells_by_path no_cells no_cells h each = tt
    cells_by_path no_cells (a_primitive twin more) h each = absurd h
    cells_by_path no_cells (an_instance twin more) h each = absurd h
    cells_by_path (a_primitive row rest) no_cells h each = absurd h
    cells_by_path (a_primitive row rest) (a_primitive twin more) (e, h) each = (e, cells_by_path rest more h (λ c path. each (suc c) path))
    cells_by_path (a_primitive row rest) (an_instance twin more) h each = absurd h
    cells_by_path (an_instance child rest) no_cells h each = absurd h
    cells_by_path (an_instance child rest) (a_primitive twin more) h each = absurd h
    cells_by_path (an_instance child rest) (an_instance twin more) (t, h) each = (twins_by_path child twin t (λ path. each 0 path), cells_by_path rest more h (λ c path. each (suc c) path))

-- cells of one list
module _ (Beside : Instance → Instance → Type 0) (f g : ℕ → Instance) (each : (k : ℕ) → Twins Beside (f k) (g k)) where
  twin_cell : (kind : PlainKind) (rest more : Cells) → TwinCells Beside rest more → TwinCells Beside (add_cell f kind rest) (add_cell g kind more)
  twin_cell (OfPrimitive p) rest more h = (refl, h)
  twin_cell (OfComponent k) rest more h = (each k, h)

  twin_list : (cells : List PlainCell) → TwinCells Beside (cells_for f cells) (cells_for g cells)
  twin_list [] = tt
  twin_list (cell ∷ cells) = twin_cell cell.kind (cells_for f cells) (cells_for g cells) (twin_list cells)

-- a cell of a tree, and the same cell where the tree is deeper
kind_at : (f g : ℕ → Instance) (kind : PlainKind) (rest more : Cells) → ((c : ℕ) → KindAt (cell_at rest c) (cell_at more c)) → (c : ℕ) → KindAt (cell_at (add_cell f kind rest) c) (cell_at (add_cell g kind more) c)
kind_at f g (OfPrimitive p) rest more each zero = a_row
kind_at f g (OfPrimitive p) rest more each (suc c) = each c
kind_at f g (OfComponent k) rest more each zero = a_part
kind_at f g (OfComponent k) rest more each (suc c) = each c

kinds_at : (f g : ℕ → Instance) (cells : List PlainCell) (c : ℕ) → KindAt (cell_at (cells_for f cells) c) (cell_at (cells_for g cells) c)
kinds_at f g [] c = no_cell Nothing
kinds_at f g (cell ∷ cells) c = kind_at f g cell.kind (cells_for f cells) (cells_for g cells) (kinds_at f g cells) c

deeper_kinds : (d : PlainDesign) (m n k c : ℕ) → k < n → KindAt (cell_at (cells_of (tree_within d m k)) c) (cell_at (cells_of (tree_within d n k)) c)
deeper_kinds d zero n k c lt = no_cell _
deeper_kinds d (suc m) zero k c lt = absurd (omega arith)
deeper_kinds d (suc m) (suc n) k c lt = kinds_at (tree_within d m) (tree_within d n) (component_at d k).cells c

-- rows of the table
row_kind : (f : ℕ → Instance) (kind : PlainKind) (rest : Cells) → ((c : ℕ) (row : Row) → cell_at rest c ≡ OfRow row → (p : PrimitiveRow) × (row_of p ≡ row)) → (c : ℕ) (row : Row) → cell_at (add_cell f kind rest) c ≡ OfRow row
    → (p : PrimitiveRow) × (row_of p ≡ row)
row_kind f (OfPrimitive p) rest each zero row e = (p, row_is (row_of p) row e)
row_kind f (OfPrimitive p) rest each (suc c) row e = each c row e
row_kind f (OfComponent k) rest each zero row e = absurd (cc)
row_kind f (OfComponent k) rest each (suc c) row e = each c row e

rows_for : (f : ℕ → Instance) (cells : List PlainCell) (c : ℕ) (row : Row) → cell_at (cells_for f cells) c ≡ OfRow row → (p : PrimitiveRow) × (row_of p ≡ row)
rows_for f [] c row e = absurd (cc)
rows_for f (cell ∷ cells) c row e = row_kind f cell.kind (cells_for f cells) (rows_for f cells) c row e

pub rows_within : (d : PlainDesign) (m k c : ℕ) (row : Row) → cell_at (cells_of (tree_within d m k)) c ≡ OfRow row → (p : PrimitiveRow) × (row_of p ≡ row)
rows_within d zero k c row e = absurd (cc)
rows_within d (suc m) k c row e = rows_for (tree_within d m) (component_at d k).cells c row e

-- WHAT THE RULES KEEP in component k
module _ (d : PlainDesign) (design : IsDesign d) (accepted : IsAccepted d) (k : ℕ) (within : k < length d.components) where
  abbrev part : PlainComponent
  part = component_at d k

  stands_in : (o : Owned) → OwnerOf part o → StandsIn part o.owner o.assign
  stands_in o (continuous e i) = subst (λ x. StandsIn part x o.assign) (sym e) i
  stands_in o (of_group g e i) = subst (λ x. StandsIn part x o.assign) (sym e) (group_there part g o.assign i, i)

  keeps_assign : (o : Owned) → In (source_order part) o → IsAssign (component_of d k) o.owner o.assign
  keeps_assign o i = (design.components k within).assigns o.owner o.assign (stands_in o (owner_of part o i))

  keeps_sources : (o : Owned) → In (source_order part) o → (p : PlacedPort) → In (sources_of o.assign) p → is_target_only (component_of d k) p.port ≡ true → ⊥
  keeps_sources o i p inside sink =
      let at = number_in (source_order part) o i in
      accepted.widths NotASource (record { component = k; part = AnAssign at.0 }) p.place (path_of (component_of d k) p.port) refl
      (inl (record { within = within; number = at.0; is = refl; assign = o; stands = at.1; breaks = (p, inside, sink, (refl, refl)) }))

  no_range : (o : Owned) → In (source_order part) o → owner_length part o.owner ≡ None → (r : Range) → In (ranges_of o.assign.guard) r → ⊥
  no_range o i none r inside =
      let at = number_in (source_order part) o i in
      let bad : is_bad_range (owner_length (part_of (component_of d k)) o.owner) r ≡ true =
      ap (λ x. is_bad_range (owner_length x o.owner) r) (same_part d (length d.components) k) ∙ ap (λ x. is_bad_range x r) none in
      accepted.shapes StaticGuard (record { component = k; part = AnAssign at.0 }) o.assign.place (path_of (component_of d k) o.assign.target) refl
      (record { within = within; number = at.0; is = refl; assign = o; stands = at.1; breaks = (r, inside, bad, (refl, refl)) })

  keeps_ranges : (o : Owned) → In (source_order part) o → owner_length part o.owner ≡ None → ranges_of o.assign.guard ≡ []
  keeps_ranges o i none = by (ranges_of o.assign.guard) (no_range o i none)
    where
      by : (list : List Range) → ((r : Range) → In list r → ⊥) → list ≡ []
      by [] each = refl
      by (r ∷ rest) each = absurd (each r (inl refl))

  not_standing : (v : Visited) → In (statements_in part) v → is_in_static v.context ≡ true → may_stand part v.context v.form ≡ false → ⊥
  not_standing v i stat wrong =
      let at = number_in (statements_in part) v i in
      let bad : may_stand (part_of (component_of d k)) v.context v.form ≡ false = ap (λ x. may_stand x v.context v.form) (same_part d (length d.components) k) ∙ wrong in
      accepted.shapes StaticShape (record { component = k; part = AStatement at.0 }) v.place (enabled_name (part_of (component_of d k)) v.form) refl
      (inr (inl (record { within = within; number = at.0; is = refl; statement = v; stands = at.1; breaks = (stat, bad, (refl, refl)) })))

  pub keeps_statics : (v : Visited) → In (statements_in part) v → is_in_static v.context ≡ true → may_stand part v.context v.form ≡ true
  keeps_statics v i stat = by (may_stand part v.context v.form) (not_standing v i stat)
    where
      by : (b : Bool) → (b ≡ false → ⊥) → b ≡ true
      by true wrong = refl
      by false wrong = absurd (wrong refl)

  keeps_forms : (v : Visited) → In (statements_in part) v → IsForm part v.form
  keeps_forms v i = subst (λ x. IsForm x v.form) (same_part d (length d.components) k) ((design.components k within).statements v i).form

-- THE PARTS of both designs, also of those that are not there
pub past_new : (old new : PlainDesign) → DesignMade old new → (k : ℕ) → length old.components ≤ k → length new.components ≤ k
past_new old new made k past = let e = made.count in omega (arith, past)

-- without static components as the old one
pub made_is_flat : (old new : PlainDesign) → DesignMade old new → IsFlat old → IsFlat new
made_is_flat old new made flat k within =
    let there : k < length old.components = let e = made.count in omega (arith, within, e) in
    let part = made.parts k there in
    let own = flat k there in
    record { dynamic = sym part.latency ∙ own.dynamic; no_invoke = sym part.invokes ∙ own.no_invoke }

-- trees of one depth, whose instances stand beside each other where components do
module _ (old new : PlainDesign) (made : DesignMade old new) (Beside : Instance → Instance → Type 0) (top : (m k : ℕ) → Beside (tree_within old m k) (tree_within new m k)) where
  cells_same : (k : ℕ) → (component_at old k).cells ≡ (component_at new k).cells
  cells_same k =
      ⊎_elim {C = (component_at old k).cells ≡ (component_at new k).cells}
      (λ within. (made.parts k within).cells)
      (λ past. ap (λ (x : PlainComponent). x.cells) (get_or_past old.components k no_component past)
      ∙ sym (ap (λ (x : PlainComponent). x.cells) (get_or_past new.components k no_component (past_new old new made k past))))
      (cases_lt k (length old.components))

  pub twins_within : (m k : ℕ) → Twins Beside (tree_within old m k) (tree_within new m k)
  twins_within zero k = (top zero k, tt)
  twins_within (suc m) k = (
    top (suc m) k,
    subst (λ cells. TwinCells Beside (cells_for (tree_within old m) (component_at old k).cells) (cells_for (tree_within new m) cells)) (cells_same k)
        (twin_list Beside (tree_within old m) (tree_within new m) (twins_within m) (component_at old k).cells),
  )

-- TWO DESIGNS
module _ (old new : PlainDesign) (design : IsDesign old) (accepted : IsAccepted old) (is_made : DesignMade old new) where
  -- the instances at one path are of one component, or there are none
  data AtPath : Instance → Instance → Type 0 where
    a_tree : (m k : ℕ) → k < length old.components → AtPath (tree_within old m k) (tree_within new m k)
    no_tree : AtPath (Node no_component no_cells) (Node no_component no_cells)

  module _ (m : ℕ) (path : Path) (below : (k : ℕ) → k < length old.components → AtPath (instance_at (tree_within old m k) path) (instance_at (tree_within new m k) path)) where
    kind_path : (n : ℕ) (cell : PlainCell) (rest more : Cells) → IsCell old n cell → ((c : ℕ) → AtPath (child_at rest c path) (child_at more c path)) → (kind : PlainKind) → cell.kind ≡ kind → (c : ℕ)
        → AtPath (child_at (add_cell (tree_within old m) kind rest) c path) (child_at (add_cell (tree_within new m) kind more) c path)
    kind_path n cell rest more is each (OfPrimitive p) e zero = no_tree
    kind_path n cell rest more is each (OfPrimitive p) e (suc c) = each c
    kind_path n cell rest more is each (OfComponent k) e zero = below k (subst (IsKind old) e is.kind)
    kind_path n cell rest more is each (OfComponent k) e (suc c) = each c

    cells_path : (n : ℕ) (cells : List PlainCell) → ((cell : PlainCell) → In cells cell → IsCell old n cell) → (c : ℕ) → AtPath (child_at (cells_for (tree_within old m) cells) c path) (child_at (cells_for (tree_within new m) cells) c path)
    cells_path n [] each c = no_tree
    cells_path n (cell ∷ cells) each c =
        kind_path n cell (cells_for (tree_within old m) cells) (cells_for (tree_within new m) cells) (each cell (inl refl)) (cells_path n cells (λ x j. each x (inr j))) cell.kind refl c

  at_path : (path : Path) (m k : ℕ) → k < length old.components → AtPath (instance_at (tree_within old m k) path) (instance_at (tree_within new m k) path)
  at_path [] zero k lt = a_tree zero k lt
  at_path [] (suc m) k lt = a_tree (suc m) k lt
  at_path (c ∷ path) zero k lt = no_tree
  at_path (c ∷ path) (suc m) k lt =
      subst (λ cells. AtPath (child_at (cells_for (tree_within old m) (component_at old k).cells) c path) (child_at (cells_for (tree_within new m) cells) c path)) (cells_same old new is_made Any (λ m n. tt) k)
      (cells_path m path (λ n l. at_path path m n l) k (component_at old k).cells (design.components k lt).cells c)

  -- WHAT STANDS BESIDE
  abbrev Entries : Instance → Type 0
  Entries i = (v : Visited) (h : History) (t : ℕ) → In (statements_in (part_of i)) v → IsAcyclic i (entries (active_in h t (form_flat (part_of i) v.form 0 [])))

  abbrev Groups : Instance → Type 0
  Groups i = (g : ℕ) → g < length (part_of i).groups → IsAcyclic i (group g)

  pub part_made : (m k : ℕ) → k < length old.components → PartMade (component_of old k) (part_of (tree_within old m k)) (part_of (tree_within new m k))
  part_made zero k lt = is_made.parts k lt
  part_made (suc m) k lt = is_made.parts k lt

  no_part_made : PartMade (Node no_component no_cells) no_component no_component
  no_part_made = record {
    name = refl;
    latency = refl;
    inputs = refl;
    outputs = refl;
    cells = refl;
    groups = no_groups;
    invokes = refl;
    always = refl;
    order = no_assigns;
    control = placed empty;
  }

  beside_at : {i j : Instance} → AtPath i j → AreAcyclic i → Groups i → Entries i → IsKept i → MadeBeside i j
  beside_at (a_tree m k lt) acyclic groups each kept = record {
    whole = component_of old k;
    same = same_part old (length old.components) k ∙ sym (same_part old m k);
    cells = λ c. deeper_kinds old m (length old.components) k c lt;
    made = part_made m k lt;
    acyclic = acyclic;
    groups = groups;
    entries = each;
    keeps_idle = kept_within old m k;
    rows = rows_within old m k;
    kept = kept;
    assigns = λ o i. keeps_assign old design accepted k lt o (subst (λ x. In (source_order x) o) (same_part old m k) i);
    no_sink = λ o i p inside sink. keeps_sources old design accepted k lt o (subst (λ x. In (source_order x) o) (same_part old m k) i) p inside sink;
    ranges = λ o i none. keeps_ranges old design accepted k lt o (subst (λ x. In (source_order x) o) (same_part old m k) i) (ap (λ x. owner_length x o.owner) (sym (same_part old m k)) ∙ none);
    statics = λ v i stat.
        ap (λ x. may_stand x v.context v.form) (same_part old m k) ∙ keeps_statics old design accepted k lt v (subst (λ x. In (statements_in x) v) (same_part old m k) i) stat;
    statements = λ v i. subst (λ x. IsForm x v.form) (sym (same_part old m k)) (keeps_forms old design accepted k lt v (subst (λ x. In (statements_in x) v) (same_part old m k) i));
  }
  beside_at no_tree acyclic groups each kept = record {
    whole = Node no_component no_cells;
    same = refl;
    cells = λ c. no_cell Nothing;
    made = no_part_made;
    acyclic = acyclic;
    groups = groups;
    entries = each;
    keeps_idle = tt;
    rows = λ c row e. absurd (let wrong : Nothing ≡ OfRow row = e in cc);
    kept = kept;
    assigns = λ o i. absurd i;
    no_sink = λ o i p inside sink. absurd i;
    ranges = λ o i none. absurd i;
    statics = λ v i stat. nothing_static v i stat;
    statements = λ v i. bare_form v i;
  }
    where
      nothing_static : (v : Visited) → In (statements_in no_component) v → is_in_static v.context ≡ true → may_stand no_component v.context v.form ≡ true
      nothing_static v (inl e) stat = absurd (let wrong : false ≡ true = ap (λ (w : Visited). is_in_static w.context) e ∙ stat in cc)
      nothing_static v (inr wrong) stat = absurd wrong

  -- THE TREES are twins
  pub trees_are_twins : Twins MadeBeside (tree_of old) (tree_within new (length old.components) old.main)
  trees_are_twins =
      twins_by_path MadeBeside (tree_of old) (tree_within new (length old.components) old.main) (twins_within old new is_made Any (λ m k. tt) (length old.components) old.main)
      (λ path. beside_at (at_path path (length old.components) old.main design.main_there) (instance_acyclic old accepted path) (λ g there. instance_group old accepted path g there)
      (λ v h t stands. entries_acyclic old design accepted v h t path stands) (kept_instance old design accepted path))
