-- THE DESIGN OF THE SHARED TREE is the shared design, where the tree breaks no rule on names.
use Rattle.std.proofs.Common.{◌≡◌, ℕ, zero, suc, ◌+◌, ◌<◌, inl, inr, Bool, true, false, List, [], ◌∷◌, ◌++◌, Option, Some, None, length, map, flat_map, option_map, slice_get, codes, refl, sym, ap, ap₂, ◌∙◌, subst, arith}
use Rattle.std.specs.Prelude.{◌||◌, is_some, if◌then◌else◌, unwrap_or}
use Rattle.std.proofs.lemmas.List.{length-map, map-append}
use Rattle.std.proofs.lemmas.Option.{slice_get-map}
use Rattle.cx_text.specs.declared.places.Place.{Place}
use Rattle.cx_prim.specs.declared.names.PrimitiveName.{PrimitiveName}
use Rattle.cx_prim.specs.Table.{PrimitiveRow}
use Rattle.cx_ast.specs.declared.operands.OperandItem.{OperandItem}
use Rattle.cx_ast.specs.declared.operands.OperandForm.{OperandForm}
use Rattle.cx_ast.specs.declared.operands.OperandForm.TheVariants as operands
use Rattle.cx_ast.specs.declared.wiring.GroupWord.{GroupWord}
use Rattle.cx_ast.specs.declared.wiring.GroupWord.TheVariants as words
use Rattle.cx_ast.specs.declared.guards.Comparison.{Comparison}
use Rattle.cx_ast.specs.declared.guards.Comparison.TheVariants as written
use Rattle.cx_ast.specs.declared.statements.BindItem.{BindItem}
use Rattle.cx_ast.specs.PlainTree as ast
use Rattle.cx_ast.specs.PlainTree.{PlainTree}
use Rattle.cx_ast.specs.PlainGuards as guards
use Rattle.cx_ast.specs.PlainStatements as statements
use Rattle.cx_meaning.specs.declared.ports.PortRef.{PortRef}
use Rattle.cx_meaning.specs.declared.ports.PortRef.TheVariants as ports
use Rattle.cx_meaning.specs.Designs.{PlainGuard, PlainGuards, Always, Atom, Negation, All, Any, Compared, a_guard, guards_of, PlainAssign, PlainInvoke, PlainGroup, OfPrimitive, OfComponent, PlainCell, PlainStatement, PlainStatements, Placed, no_statements, a_statement, PlainComponent}
use Rattle.cx_meaning.specs.declared.kinds.GroupKind.TheVariants as kinds
use Rattle.cx_meaning.specs.Designs as plain
use Rattle.cx_text.specs.Members.{In}
use Rattle.cx_rules.specs.Ports.{cell_name}
use Rattle.cx_numbering.specs.Names.{same_name, number_of, later, is_external, cell_names, component_names, port_names, groups_in, always_in, group_names, component_among, cell_among, CellOf, Neither, APrimitive, AComponent, primitive_or, cell_of, cell_port_names, found_cell_ports, latency_of, found_latency, cell_go, primitive_of}
use Rattle.cx_numbering.specs.DesignOf.{number_or_0, Invoke, own_port, cell_port, port_of, placed_of, comparison_of, guard_of, guards_in, guard_or_always, assign_of, kind_of, group_of, go_port, found_go, at, input_assign, go_guard, go_assign, register_of, capture_assigns, register_done, done_assign, invoke_group, invokes_in, invokes_else, invokes_of, invokes_all, group_number, comb_number, of_block, form_of, else_of, block_of, parts_of, all_of, invoke_groups, control_invokes, control_of, kind_or, plain_cell_of, component_of, Next, invoke_latency, is_static_invoke, static_capture, capture_count, after_static, after, past, captures_number, plain_invoke_of, invoke_form, captures_for, groups_for, static_for, static_invokes, first}
use Rattle.cx_numbering.specs.NameRules.{is_register_in}
use Rattle.cx_names_scopes.specs.Scopes.{at_number}
use Rattle.cx_names_scopes.proofs.NameLemmas.{cell_at, number_within}
use Rattle.cx_names.proofs.Base.{Distinct, map_map, some_at}
use Rattle.cx_names.proofs.NumberLemmas.{number_is}
use Rattle.cx_rewrites.specs.Moving.{moved_port, moved_guard, moved_guards, moved_assign, moved_group, moved_form, moved_statement, moved_statements}
use Rattle.cx_rewrites.specs.Renaming.{renamed}
use Rattle.cx_sharing.specs.Uses.{is_combinational, kind_in, is_candidate}
use Rattle.cx_sharing.specs.Giving.{keeper, stays, new_cell}
use Rattle.cx_sharing.specs.SharedDesign.{remaining, shared_invoke, shared_part}
use Rattle.cx_copies.specs.Naming.{named_operand_form, named_operand, named_guard, named_guards, named_bind, named_form, named_else, named_block, named_statements, named_assign, named_group, named_wire}
use Rattle.cx_sharing.specs.SharedTree.{keeper_name, kept_name, left_cells, shared_component, shared_components, shared_tree}
use Rattle.cx_sharing.proofs.KeptLemmas.{keeper_stays}
use Rattle.cx_sharing.proofs.KeeperLemmas.{keeper_kind, keeper_within, other_kept}
use Rattle.cx_sharing.proofs.RemainingLemmas.{counted, from_zero}
use Rattle.cx_sharing.proofs.CandidateLemmas.{candidate_is}
use Rattle.cx_rewritten.proofs.NumberLemmas.{names_of, number_kept, new_zero}
use Rattle.cx_meaning.proofs.DesignsLemmas.{if_is, while_is, static_if_is}
use Rattle.cx_numbering.proofs.DesignOfLemmas.{assign_is}

-- COMPONENTS keep their names, their signatures and their order
abbrev pub shared_item : PlainTree → ast.PlainComponent → ast.PlainComponent
shared_item tree item = shared_component (component_of tree item) item

pub shared_items : (tree : PlainTree) (items : List ast.PlainComponent) → shared_components (map (component_of tree) items) items ≡ map (shared_item tree) items
shared_items tree [] = refl
shared_items tree (item ∷ items) = ap (λ z. shared_item tree item ∷ z) (shared_items tree items)

names_kept : (parts : List PlainComponent) (items : List ast.PlainComponent) → map (λ item. item.name) (shared_components parts items) ≡ map (λ item. item.name) items
names_kept parts [] = refl
names_kept [] (item ∷ items) = refl
names_kept (part ∷ parts) (item ∷ items) = ap (λ z. item.name ∷ z) (names_kept parts items)

pub component_names-shared : (tree : PlainTree) → component_names (shared_tree tree) ≡ component_names tree
component_names-shared tree = names_kept (map (component_of tree) tree.components) tree.components

pub among-shared : (tree : PlainTree) (name : List ℕ) (items : List ast.PlainComponent) → component_among name (map (shared_item tree) items) ≡ option_map (shared_item tree) (component_among name items)
among-shared tree name [] = refl
among-shared tree name (item ∷ items) = by (same_name item.name name) (among-shared tree name items)
  where
    by : (b : Bool) → component_among name (map (shared_item tree) items) ≡ option_map (shared_item tree) (component_among name items)
        → (if b then Some (shared_item tree item) else component_among name (map (shared_item tree) items)) ≡ option_map (shared_item tree) (if b then Some item else component_among name items)
    by true h = refl
    by false h = h

-- WHAT A CELL IS OF
abbrev pub shared_of : PlainTree → CellOf → CellOf
shared_of tree Neither = Neither
shared_of tree (APrimitive p) = APrimitive p
shared_of tree (AComponent item) = AComponent (shared_item tree item)

pub cell_of-shared : (tree : PlainTree) (cell : ast.PlainCell) → cell_of (shared_tree tree) cell ≡ shared_of tree (cell_of tree cell)
cell_of-shared tree cell =
    ap (λ items. primitive_or (primitive_of cell.kind) cell.numbers (component_among cell.kind items)) (shared_items tree tree.components)
    ∙ ap (primitive_or (primitive_of cell.kind) cell.numbers) (among-shared tree cell.kind tree.components)
    ∙ by (primitive_of cell.kind) (component_among cell.kind tree.components)
  where
    by : (o : Option PrimitiveName) (found : Option ast.PlainComponent) → primitive_or o cell.numbers (option_map (shared_item tree) found) ≡ shared_of tree (primitive_or o cell.numbers found)
    by (Some n) found = refl
    by None None = refl
    by None (Some item) = refl

port_names_of : (tree : PlainTree) (of : CellOf) → cell_port_names (shared_of tree of) ≡ cell_port_names of
port_names_of tree Neither = refl
port_names_of tree (APrimitive p) = refl
port_names_of tree (AComponent item) = refl

go_of : (tree : PlainTree) (of : CellOf) → cell_go (shared_of tree of) ≡ cell_go of
go_of tree Neither = refl
go_of tree (APrimitive p) = refl
go_of tree (AComponent item) = refl

latency_in : (tree : PlainTree) (of : CellOf) → latency_of (shared_of tree of) ≡ latency_of of
latency_in tree Neither = refl
latency_in tree (APrimitive p) = refl
latency_in tree (AComponent item) = refl

latency-shared : (tree : PlainTree) (cell : ast.PlainCell) → latency_of (cell_of (shared_tree tree) cell) ≡ latency_of (cell_of tree cell)
latency-shared tree cell = ap latency_of (cell_of-shared tree cell) ∙ latency_in tree (cell_of tree cell)

pub ports-shared : (tree : PlainTree) (cell : ast.PlainCell) → cell_port_names (cell_of (shared_tree tree) cell) ≡ cell_port_names (cell_of tree cell)
ports-shared tree cell = ap cell_port_names (cell_of-shared tree cell) ∙ port_names_of tree (cell_of tree cell)

pub go-shared : (tree : PlainTree) (cell : ast.PlainCell) → cell_go (cell_of (shared_tree tree) cell) ≡ cell_go (cell_of tree cell)
go-shared tree cell = ap cell_go (cell_of-shared tree cell) ∙ go_of tree (cell_of tree cell)

-- the names of cells
pub cells_named : (tree : PlainTree) (item : ast.PlainComponent) (cells : List ast.PlainCell) → names_of (map (plain_cell_of tree item) cells) ≡ map (λ cell. cell.name) cells
cells_named tree item cells = map_map (plain_cell_of tree item) (λ cell. cell.name) cells

-- a name that is not there is not among those that stay
pub number_absent : (set : ℕ → Bool) (k : ℕ) (name : List ℕ) (cells : List PlainCell) → number_of name (names_of cells) ≡ None → number_of name (names_of (remaining set k cells)) ≡ None
number_absent set k name [] e = refl
number_absent set k name (cell ∷ cells) e = by (same_name cell.name name) refl e (number_absent set (suc k) name cells)
  where
    further : (b : Bool) → same_name cell.name name ≡ false → number_of name (names_of (remaining set (suc k) cells)) ≡ None → number_of name (names_of (if b then cell ∷ remaining set (suc k) cells else remaining set (suc k) cells)) ≡ None
    further true differ h = ap (λ t. if t then Some 0 else later (number_of name (names_of (remaining set (suc k) cells)))) differ ∙ ap later h
    further false differ h = h

    none : (o : Option ℕ) → later o ≡ None → o ≡ None
    none None e = refl
    none (Some n) e = absurd (cc)

    by : (t : Bool) → same_name cell.name name ≡ t → (if t then Some 0 else later (number_of name (names_of cells))) ≡ None
        → (number_of name (names_of cells) ≡ None → number_of name (names_of (remaining set (suc k) cells)) ≡ None) → number_of name (names_of (remaining set k (cell ∷ cells))) ≡ None
    by true same e next = absurd (cc)
    by false differ e next = further (set k) differ (next (none (number_of name (names_of cells)) e))

-- the cell of a text that stands at the new number
pub cell_left : (part : PlainComponent) (k : ℕ) (cells : List ast.PlainCell) (c : ℕ) → stays part (k + c) ≡ true → slice_get (left_cells part k cells) (counted (stays part) k c) ≡ slice_get cells c
cell_left part k [] c on = refl
cell_left part k (cell ∷ cells) zero on = by (stays part k) (let here : k ≡ k + 0 = omega arith in ap (stays part) here ∙ on)
  where
    by : (b : Bool) → b ≡ true → slice_get (if b then cell ∷ left_cells part (suc k) cells else left_cells part (suc k) cells) 0 ≡ Some cell
    by true e = refl
    by false e = absurd (cc)
cell_left part k (cell ∷ cells) (suc c) on = by (stays part k) (let there : suc k + c ≡ k + suc c = omega arith in cell_left part (suc k) cells c (ap (stays part) there ∙ on))
  where
    by : (b : Bool) → slice_get (left_cells part (suc k) cells) (counted (stays part) (suc k) c) ≡ slice_get cells c
        → slice_get (if b then cell ∷ left_cells part (suc k) cells else left_cells part (suc k) cells) (if b then suc (counted (stays part) (suc k) c) else counted (stays part) (suc k) c) ≡ slice_get cells c
    by true e = e
    by false e = e

named_at : (cells : List PlainCell) (c : ℕ) → c < length cells → slice_get (names_of cells) c ≡ Some (cell_name cells c)
named_at [] c lt = absurd (omega (arith, lt))
named_at (cell ∷ cells) zero lt = refl
named_at (cell ∷ cells) (suc c) lt = named_at cells c (omega (arith, lt))

kind_at : (cells : List PlainCell) (c : ℕ) (cell : PlainCell) → slice_get cells c ≡ Some cell → kind_in cells c ≡ cell.kind
kind_at [] c cell e = absurd (cc)
kind_at (x ∷ xs) zero cell e = let same : x ≡ cell = cc in ap (λ z. z.kind) same
kind_at (x ∷ xs) (suc c) cell e = kind_at xs c cell e

module _ (tree : PlainTree) (item : ast.PlainComponent) where
  abbrev pub own_part : PlainComponent
  own_part = component_of tree item

  abbrev pub new_name : List ℕ → List ℕ
  new_name = kept_name own_part

  abbrev pub new_port : PortRef → PortRef
  new_port = renamed (new_cell own_part)

  abbrev pub twin : ast.PlainComponent
  twin = shared_item tree item

  -- what a plain cell of a primitive is of
  pub primitive_is : (of : CellOf) (p : PrimitiveRow) → kind_or tree item of ≡ OfPrimitive p → of ≡ APrimitive p
  primitive_is Neither p e = absurd (cc)
  primitive_is (APrimitive q) p e = cc
  primitive_is (AComponent other) p e = absurd (cc)

  -- CELLS
  kind_of-shared : (cell : ast.PlainCell) → kind_or (shared_tree tree) twin (cell_of (shared_tree tree) cell) ≡ kind_or tree item (cell_of tree cell)
  kind_of-shared cell = ap (kind_or (shared_tree tree) twin) (cell_of-shared tree cell) ∙ by (cell_of tree cell)
    where
      by : (of : CellOf) → kind_or (shared_tree tree) twin (shared_of tree of) ≡ kind_or tree item of
      by Neither = refl
      by (APrimitive p) = refl
      by (AComponent other) = ap (λ names. OfComponent (number_or_0 other.name names)) (component_names-shared tree)

  cell-shared : (cell : ast.PlainCell) → plain_cell_of (shared_tree tree) twin cell ≡ plain_cell_of tree item cell
  cell-shared cell = ap (λ kind. record { name = cell.name; kind = kind; external = is_external cell; place = cell.place }) (kind_of-shared cell)

  pub cells-shared : (c : ℕ) (cells : List ast.PlainCell) → map (plain_cell_of (shared_tree tree) twin) (left_cells own_part c cells) ≡ remaining (stays own_part) c (map (plain_cell_of tree item) cells)
  cells-shared c [] = refl
  cells-shared c (cell ∷ cells) = by (stays own_part c) (cells-shared (suc c) cells)
    where
      by : (b : Bool) → map (plain_cell_of (shared_tree tree) twin) (left_cells own_part (suc c) cells) ≡ remaining (stays own_part) (suc c) (map (plain_cell_of tree item) cells)
          → map (plain_cell_of (shared_tree tree) twin) (if b then cell ∷ left_cells own_part (suc c) cells else left_cells own_part (suc c) cells)
          ≡ (if b then plain_cell_of tree item cell ∷ remaining (stays own_part) (suc c) (map (plain_cell_of tree item) cells) else remaining (stays own_part) (suc c) (map (plain_cell_of tree item) cells))
      by true h = ap (λ z. z ∷ map (plain_cell_of (shared_tree tree) twin) (left_cells own_part (suc c) cells)) (cell-shared cell) ∙ ap (λ z. plain_cell_of tree item cell ∷ z) h
      by false h = h

  names-shared : cell_names twin ≡ names_of (remaining (stays own_part) 0 own_part.cells)
  names-shared = sym (cells_named (shared_tree tree) twin (left_cells own_part 0 item.cells)) ∙ ap names_of (cells-shared 0 item.cells)

  own_names : names_of own_part.cells ≡ cell_names item
  own_names = cells_named tree item item.cells

  -- the kind of a cell of the text
  pub kind_of_cell : (c : ℕ) (cell : ast.PlainCell) → slice_get item.cells c ≡ Some cell → kind_in own_part.cells c ≡ kind_or tree item (cell_of tree cell)
  kind_of_cell c cell e = kind_at own_part.cells c (plain_cell_of tree item cell) (slice_get-map (plain_cell_of tree item) item.cells c ∙ ap (λ o. option_map (plain_cell_of tree item) o) e)

  module _ (apart : Distinct (cell_names item)) where
    number_own : (c : ℕ) → c < length own_part.cells → number_of (cell_name own_part.cells c) (names_of own_part.cells) ≡ Some c
    number_own c lt = number_is (names_of own_part.cells) (subst Distinct (sym own_names) apart) c (cell_name own_part.cells c) (named_at own_part.cells c lt)

    within : (name : List ℕ) (c : ℕ) → number_of name (names_of own_part.cells) ≡ Some c → c < length own_part.cells
    within name c e = let few = number_within name (names_of own_part.cells) c e in let many = length-map own_part.cells (λ cell. cell.name) in omega (arith, few, many)

    -- THE NUMBER OF A CELL that is named
    found_number : (name : List ℕ) (c : ℕ) → number_of name (names_of own_part.cells) ≡ Some c → number_of (kept_name own_part name) (cell_names twin) ≡ Some (new_cell own_part c)
    found_number name c e =
        ap (number_of (kept_name own_part name)) names-shared
        ∙ number_kept own_part name c e (number_own (keeper own_part c) (keeper_within own_part c (within name c e)))

    absent_number : (name : List ℕ) → number_of name (names_of own_part.cells) ≡ None → number_of (kept_name own_part name) (cell_names twin) ≡ None
    absent_number name e =
        ap (λ o. number_of (keeper_name own_part o name) (cell_names twin)) e
        ∙ ap (number_of name) names-shared
        ∙ number_absent (stays own_part) 0 name own_part.cells e

    pub number-shared : (name : List ℕ) → number_or_0 (kept_name own_part name) (cell_names twin) ≡ new_cell own_part (number_or_0 name (cell_names item))
    number-shared name = by (number_of name (names_of own_part.cells)) refl ∙ ap (λ names. new_cell own_part (number_or_0 name names)) own_names
      where
        by : (o : Option ℕ) → number_of name (names_of own_part.cells) ≡ o → number_or_0 (kept_name own_part name) (cell_names twin) ≡ new_cell own_part (number_or_0 name (names_of own_part.cells))
        by (Some c) e = ap (λ o. unwrap_or o 0) (found_number name c e) ∙ ap (λ o. new_cell own_part (unwrap_or o 0)) (sym e)
        by None e = ap (λ o. unwrap_or o 0) (absent_number name e) ∙ sym (new_zero own_part) ∙ ap (λ o. new_cell own_part (unwrap_or o 0)) (sym e)

    -- THE CELL OF THE TEXT that a kept name names
    pub found_cell : (name : List ℕ) (c : ℕ) → number_of name (names_of own_part.cells) ≡ Some c → cell_among (kept_name own_part name) twin.cells ≡ slice_get item.cells (keeper own_part c)
    found_cell name c e =
        cell_at (kept_name own_part name) twin.cells
        ∙ ap (λ o. at_number o twin.cells) (found_number name c e)
        ∙ ap (slice_get twin.cells) (sym (from_zero (stays own_part) (keeper own_part c)))
        ∙ cell_left own_part 0 item.cells (keeper own_part c) (let none : 0 + keeper own_part c ≡ keeper own_part c = omega arith in ap (stays own_part) none ∙ keeper_stays own_part c)

    pub old_cell : (name : List ℕ) (c : ℕ) → number_of name (names_of own_part.cells) ≡ Some c → cell_among name item.cells ≡ slice_get item.cells c
    old_cell name c e = cell_at name item.cells ∙ ap (λ names. at_number (number_of name names) item.cells) (sym own_names) ∙ ap (λ o. at_number o item.cells) e

    pub no_cell : (name : List ℕ) → number_of name (names_of own_part.cells) ≡ None → (cell_among (kept_name own_part name) twin.cells ≡ None) × (cell_among name item.cells ≡ None)
    no_cell name e = (
      cell_at (kept_name own_part name) twin.cells ∙ ap (λ o. at_number o twin.cells) (absent_number name e),
      cell_at name item.cells ∙ ap (λ names. at_number (number_of name names) item.cells) (sym own_names) ∙ ap (λ o. at_number o item.cells) e,
    )

    -- a cell of the text and the one that keeps it are one, or of one combinational primitive
    pub data KeptCell : Option ast.PlainCell → Option ast.PlainCell → Type 0 where
      the_same : {cell : Option ast.PlainCell} → KeptCell cell cell
      of_one_kind : {kept given : ast.PlainCell} (p : PrimitiveRow) → is_combinational (OfPrimitive p) ≡ true → cell_of tree kept ≡ APrimitive p → cell_of tree given ≡ APrimitive p → KeptCell (Some kept) (Some given)

    pair : (c : ℕ) → c < length own_part.cells → KeptCell (slice_get item.cells (keeper own_part c)) (slice_get item.cells c)
    pair c lt = by (is_candidate own_part c) refl
      where
        by : (b : Bool) → is_candidate own_part c ≡ b → KeptCell (slice_get item.cells (keeper own_part c)) (slice_get item.cells c)
        by false none = subst (λ n. KeptCell (slice_get item.cells n) (slice_get item.cells c)) (sym (other_kept own_part c none)) the_same
        by true is =
            let many : length own_part.cells ≡ length item.cells = length-map item.cells (plain_cell_of tree item) in
            let few = keeper_within own_part c lt in
            let x = some_at item.cells (keeper own_part c) (omega (arith, few, many)) in
            let y = some_at item.cells c (omega (arith, lt, many)) in
            let k = candidate_is own_part c is in
            subst (λ z. KeptCell z (slice_get item.cells c)) (sym x.1) (subst (KeptCell (Some x.0)) (sym y.1)
            (of_one_kind k.primitive k.combines (primitive_is (cell_of tree x.0) k.primitive (sym (kind_of_cell (keeper own_part c) x.0 x.1) ∙ keeper_kind own_part c ∙ k.kind)) (primitive_is (cell_of tree y.0) k.primitive (sym (kind_of_cell c y.0 y.1) ∙ k.kind))))

    pub kept_pair : (name : List ℕ) → KeptCell (cell_among (kept_name own_part name) twin.cells) (cell_among name item.cells)
    kept_pair name = by (number_of name (names_of own_part.cells)) refl
      where
        by : (o : Option ℕ) → number_of name (names_of own_part.cells) ≡ o → KeptCell (cell_among (kept_name own_part name) twin.cells) (cell_among name item.cells)
        by None e = let r = no_cell name e in subst (λ z. KeptCell z (cell_among name item.cells)) (sym r.0) (subst (KeptCell None) (sym r.1) the_same)
        by (Some c) e =
            subst (λ z. KeptCell z (cell_among name item.cells)) (sym (found_cell name c e))
            (subst (KeptCell (slice_get item.cells (keeper own_part c))) (sym (old_cell name c e)) (pair c (within name c e)))

    ports_kept : (a b : Option ast.PlainCell) → KeptCell a b → found_cell_ports (shared_tree tree) a ≡ found_cell_ports tree b
    ports_kept a b (the_same {cell = cell}) = by cell
      where
        by : (o : Option ast.PlainCell) → found_cell_ports (shared_tree tree) o ≡ found_cell_ports tree o
        by None = refl
        by (Some x) = ports-shared tree x
    ports_kept a b (of_one_kind {kept} {given} p c k g) = ports-shared tree kept ∙ ap cell_port_names (k ∙ sym g)

    go_kept : (a b : Option ast.PlainCell) → KeptCell a b → found_go (shared_tree tree) twin a ≡ found_go tree item b
    go_kept a b (the_same {cell = cell}) = by cell
      where
        by : (o : Option ast.PlainCell) → found_go (shared_tree tree) twin o ≡ found_go tree item o
        by None = refl
        by (Some x) = go-shared tree x
    go_kept a b (of_one_kind {kept} {given} p c k g) = go-shared tree kept ∙ ap cell_go (k ∙ sym g)

    pub latency_kept : (a b : Option ast.PlainCell) → KeptCell a b → found_latency (shared_tree tree) a ≡ found_latency tree b
    latency_kept a b (the_same {cell = cell}) = by cell
      where
        by : (o : Option ast.PlainCell) → found_latency (shared_tree tree) o ≡ found_latency tree o
        by None = refl
        by (Some x) = latency-shared tree x
    latency_kept a b (of_one_kind {kept} {given} p c k g) = latency-shared tree kept ∙ ap latency_of (k ∙ sym g)

    -- the ports of a named cell
    pub cell_ports-shared : (name : List ℕ) → found_cell_ports (shared_tree tree) (cell_among (kept_name own_part name) twin.cells) ≡ found_cell_ports tree (cell_among name item.cells)
    cell_ports-shared name = ports_kept (cell_among (kept_name own_part name) twin.cells) (cell_among name item.cells) (kept_pair name)

    pub cell_port-shared : (cell port : List ℕ) → cell_port (shared_tree tree) twin (kept_name own_part cell) port ≡ new_port (cell_port tree item cell port)
    cell_port-shared cell port =
        ap (λ c. ports.Cell c (number_or_0 port (found_cell_ports (shared_tree tree) (cell_among (kept_name own_part cell) twin.cells)))) (number-shared cell)
        ∙ ap (λ names. ports.Cell (new_cell own_part (number_or_0 cell (cell_names item))) (number_or_0 port names)) (cell_ports-shared cell)

    -- GROUPS keep their names and their order
    pub groups-shared : (wires : List ast.PlainWire) → groups_in (map (named_wire new_name) wires) ≡ map (named_group new_name) (groups_in wires)
    groups-shared [] = refl
    groups-shared (ast.Group g ∷ rest) = ap (λ z. named_group new_name g ∷ z) (groups-shared rest)
    groups-shared (ast.Assign a ∷ rest) = groups-shared rest

    pub always-shared : (wires : List ast.PlainWire) → always_in (map (named_wire new_name) wires) ≡ map (named_assign new_name) (always_in wires)
    always-shared [] = refl
    always-shared (ast.Group g ∷ rest) = always-shared rest
    always-shared (ast.Assign a ∷ rest) = ap (λ z. named_assign new_name a ∷ z) (always-shared rest)

    pub group_names-shared : group_names twin ≡ group_names item
    group_names-shared = ap (map (λ g. g.name)) (groups-shared item.wires) ∙ map_map (named_group new_name) (λ g. g.name) (groups_in item.wires)

    -- PORTS
    own_port-shared : (o : Option ℕ) (n : ℕ) → own_port o n ≡ new_port (own_port o n)
    own_port-shared None n = refl
    own_port-shared (Some k) n = refl

    pub port-shared : (form : OperandForm) → port_of (shared_tree tree) twin (named_operand_form new_name form) ≡ new_port (port_of tree item form)
    port-shared (operands.Own name) = own_port-shared (number_of name (port_names item.inputs)) (number_or_0 name (port_names item.outputs))
    port-shared (operands.Port cell port) = cell_port-shared cell port
    port-shared (operands.Hole group hole) = ap (λ names. ports.Done (number_or_0 group names)) group_names-shared
    port-shared (operands.Literal width value) = refl

    pub placed-shared : (o : OperandItem) → placed_of (shared_tree tree) twin (named_operand new_name o) ≡ moved_port new_port (placed_of tree item o)
    placed-shared o = ap (λ p. record { port = p; place = o.place }) (port-shared o.form)

    -- GUARDS
    comparison-shared : (c : Comparison) → comparison_of (shared_tree tree) twin c ≡ comparison_of tree item c
    comparison-shared written.Equal = refl
    comparison-shared written.NotEqual = refl
    comparison-shared written.Less = refl
    comparison-shared written.Greater = refl
    comparison-shared written.LessEqual = refl
    comparison-shared written.GreaterEqual = refl

    mutual
      guard-shared : (g : guards.PlainGuard) → guard_of (shared_tree tree) twin (named_guard new_name g) ≡ moved_guard new_port (guard_of tree item g)
      guard-shared (guards.Or gs) = ap Any (guards-shared gs)
      guard-shared (guards.And gs) = ap All (guards-shared gs)
      guard-shared (guards.Compare c left right) =
          ap (λ x. Compared x (placed_of (shared_tree tree) twin (named_operand new_name left)) (placed_of (shared_tree tree) twin (named_operand new_name right))) (comparison-shared c)
          ∙ ap (λ x. Compared (comparison_of tree item c) x (placed_of (shared_tree tree) twin (named_operand new_name right))) (placed-shared left)
          ∙ ap (Compared (comparison_of tree item c) (moved_port new_port (placed_of tree item left))) (placed-shared right)
      guard-shared (guards.Not g) = ap Negation (guard-shared g)
      guard-shared (guards.Operand o) = ap Atom (placed-shared o)
      guard-shared (guards.At n) = refl
      guard-shared (guards.During from to) = refl

      guards-shared : (gs : guards.PlainGuards) → guards_in (shared_tree tree) twin (named_guards new_name gs) ≡ moved_guards new_port (guards_in tree item gs)
      guards-shared guards.NoGuards = refl
      guards-shared (guards.GuardThen g gs) =
          ap (λ x. a_guard x (guards_in (shared_tree tree) twin (named_guards new_name gs))) (guard-shared g) ∙ ap (a_guard (moved_guard new_port (guard_of tree item g))) (guards-shared gs)

    option-shared : (o : Option guards.PlainGuard) → guard_or_always (shared_tree tree) twin (option_map (named_guard new_name) o) ≡ moved_guard new_port (guard_or_always tree item o)
    option-shared None = refl
    option-shared (Some g) = guard-shared g

    -- ASSIGNMENTS
    assign-shared : (a : ast.PlainAssign) → assign_of (shared_tree tree) twin (named_assign new_name a) ≡ moved_assign new_port (assign_of tree item a)
    assign-shared a = assign_is _ _ _ _ _ _ a.place (port-shared a.target.form) (option-shared a.guard) (placed-shared a.source)

    assigns-shared : (list : List ast.PlainAssign) → map (assign_of (shared_tree tree) twin) (map (named_assign new_name) list) ≡ map (moved_assign new_port) (map (assign_of tree item) list)
    assigns-shared [] = refl
    assigns-shared (a ∷ rest) =
        ap (λ x. x ∷ map (assign_of (shared_tree tree) twin) (map (named_assign new_name) rest)) (assign-shared a) ∙ ap (λ x. moved_assign new_port (assign_of tree item a) ∷ x) (assigns-shared rest)

    word-shared : (word : GroupWord) → kind_of (shared_tree tree) twin word ≡ kind_of tree item word
    word-shared words.Plain = refl
    word-shared words.Comb = refl
    word-shared (words.Timed n) = refl

    group-shared : (g : ast.PlainGroup) → group_of (shared_tree tree) twin (named_group new_name g) ≡ moved_group new_port (group_of tree item g)
    group-shared g =
        ap (λ k. record { name = g.name; kind = k; assigns = map (assign_of (shared_tree tree) twin) (map (named_assign new_name) g.assigns); place = g.place }) (word-shared g.kind)
        ∙ ap (λ x. record { name = g.name; kind = kind_of tree item g.kind; assigns = x; place = g.place }) (assigns-shared g.assigns)

    list-shared : (list : List ast.PlainGroup) → map (group_of (shared_tree tree) twin) (map (named_group new_name) list) ≡ map (moved_group new_port) (map (group_of tree item) list)
    list-shared [] = refl
    list-shared (g ∷ rest) =
        ap (λ x. x ∷ map (group_of (shared_tree tree) twin) (map (named_group new_name) rest)) (group-shared g) ∙ ap (λ x. moved_group new_port (group_of tree item g) ∷ x) (list-shared rest)

    -- INVOKES, whose cells stay
    abbrev pub shared_invoked : Invoke → Invoke
    shared_invoked k = record { cell = new_name k.cell; written = k.written; length = k.length; inputs = map (named_bind new_name) k.inputs; outputs = map (named_bind new_name) k.outputs; place = k.place }

    -- the outputs of an invoke are bound to registers
    abbrev pub IsInvoke : Invoke → Type 0
    IsInvoke k = (b : BindItem) → In k.outputs b → is_register_in tree item b.value.form ≡ true

    register_port-shared : (name : List ℕ) (form : OperandForm) (place other : Place) (port : List ℕ) → is_register_in tree item form ≡ true
        → cell_port (shared_tree tree) twin (register_of (shared_tree tree) twin (named_bind new_name (record { name = name; value = record { form = form; place = place }; place = other }))) port
        ≡ new_port (cell_port tree item (register_of tree item (record { name = name; value = record { form = form; place = place }; place = other })) port)
    register_port-shared name (operands.Own own) place other port e = absurd (cc)
    register_port-shared name (operands.Port cell own) place other port e = cell_port-shared cell port
    register_port-shared name (operands.Hole group hole) place other port e = absurd (cc)
    register_port-shared name (operands.Literal width value) place other port e = absurd (cc)

    module _ (k : Invoke) (is : IsInvoke k) where
      here : (port : List ℕ) → cell_port (shared_tree tree) twin (new_name k.cell) port ≡ new_port (cell_port tree item k.cell port)
      here port = cell_port-shared k.cell port

      placed_here : (place : Place) (port : List ℕ) → at (shared_tree tree) twin place (cell_port (shared_tree tree) twin (new_name k.cell) port) ≡ moved_port new_port (at tree item place (cell_port tree item k.cell port))
      placed_here place port = ap (λ p. record { port = p; place = place }) (here port)

      input-shared : (b : BindItem) → input_assign (shared_tree tree) twin (shared_invoked k) (named_bind new_name b) ≡ moved_assign new_port (input_assign tree item k b)
      input-shared b = assign_is _ _ Always Always _ _ k.place (here b.name) refl (placed-shared b.value)

      inputs-shared : (list : List BindItem) → map (input_assign (shared_tree tree) twin (shared_invoked k)) (map (named_bind new_name) list) ≡ map (moved_assign new_port) (map (input_assign tree item k) list)
      inputs-shared [] = refl
      inputs-shared (b ∷ rest) =
          ap (λ x. x ∷ map (input_assign (shared_tree tree) twin (shared_invoked k)) (map (named_bind new_name) rest)) (input-shared b)
          ∙ ap (λ x. moved_assign new_port (input_assign tree item k b) ∷ x) (inputs-shared rest)

      go_is : found_go (shared_tree tree) twin (cell_among (new_name k.cell) twin.cells) ≡ found_go tree item (cell_among k.cell item.cells)
      go_is = go_kept (cell_among (new_name k.cell) twin.cells) (cell_among k.cell item.cells) (kept_pair k.cell)

      go_port-shared : (o : Option (List ℕ)) → go_port (shared_tree tree) twin o (new_name k.cell) ≡ new_port (go_port tree item o k.cell)
      go_port-shared None = here []
      go_port-shared (Some name) = here name

      go_guard-shared : (outputs : List BindItem) → go_guard (shared_tree tree) twin (shared_invoked k) (map (named_bind new_name) outputs) ≡ moved_guard new_port (go_guard tree item k outputs)
      go_guard-shared [] = refl
      go_guard-shared (b ∷ rest) = ap (λ p. Negation (Atom p)) (placed_here k.place (codes "done"))

      go-assign-shared : go_assign (shared_tree tree) twin (shared_invoked k) ≡ moved_assign new_port (go_assign tree item k)
      go-assign-shared =
          assign_is _ _ _ _ _ _ k.place (ap (λ o. go_port (shared_tree tree) twin o (new_name k.cell)) go_is ∙ go_port-shared (found_go tree item (cell_among k.cell item.cells))) (go_guard-shared k.outputs) refl

      register_here : (b : BindItem) → In k.outputs b → (port : List ℕ)
          → cell_port (shared_tree tree) twin (register_of (shared_tree tree) twin (named_bind new_name b)) port ≡ new_port (cell_port tree item (register_of tree item b) port)
      register_here b i port = register_port-shared b.name b.value.form b.value.place b.place port (is b i)

      captures-shared : (list : List BindItem) → ((b : BindItem) → In list b → In k.outputs b)
          → flat_map (capture_assigns (shared_tree tree) twin (shared_invoked k)) (map (named_bind new_name) list) ≡ map (moved_assign new_port) (flat_map (capture_assigns tree item k) list)
      captures-shared [] among = refl
      captures-shared (b ∷ rest) among =
          ap₂ ◌∷◌ (assign_is _ _ Always Always _ _ k.place (port-shared b.value.form) refl (placed_here b.place b.name))
          (ap₂ ◌∷◌ (assign_is _ _ Always Always _ _ k.place (register_here b (among b (inl refl)) (codes "write_en")) refl (placed_here k.place (codes "done")))
          (captures-shared rest (λ c i. among c (inr i))))

      done_here : (b : BindItem) → In k.outputs b → register_done (shared_tree tree) twin (shared_invoked k) (named_bind new_name b) ≡ moved_port new_port (register_done tree item k b)
      done_here b i = ap (λ p. record { port = p; place = k.place }) (register_here b i (codes "done"))

      dones-shared : (list : List BindItem) → ((b : BindItem) → In list b → In k.outputs b)
          → guards_of (map (λ b. Atom (register_done (shared_tree tree) twin (shared_invoked k) b)) (map (named_bind new_name) list)) ≡ moved_guards new_port (guards_of (map (λ b. Atom (register_done tree item k b)) list))
      dones-shared [] among = refl
      dones-shared (b ∷ rest) among =
          ap (λ x. a_guard (Atom x) (guards_of (map (λ c. Atom (register_done (shared_tree tree) twin (shared_invoked k) c)) (map (named_bind new_name) rest)))) (done_here b (among b (inl refl)))
          ∙ ap (a_guard (Atom (moved_port new_port (register_done tree item k b)))) (dones-shared rest (λ c i. among c (inr i)))

      done_assign-shared : (g : ℕ) (list : List BindItem) → ((b : BindItem) → In list b → In k.outputs b)
          → done_assign (shared_tree tree) twin (shared_invoked k) g (map (named_bind new_name) list) ≡ moved_assign new_port (done_assign tree item k g list)
      done_assign-shared g [] among = assign_is _ _ Always Always _ _ k.place refl refl (placed_here k.place (codes "done"))
      done_assign-shared g (b ∷ []) among = assign_is _ _ Always Always _ _ k.place refl refl (done_here b (among b (inl refl)))
      done_assign-shared g (b ∷ c ∷ rest) among = assign_is _ _ _ _ _ _ k.place refl (ap All (dones-shared (b ∷ c ∷ rest) among)) refl

      invoke_group-shared : (g : ℕ) → invoke_group (shared_tree tree) twin g (shared_invoked k) ≡ moved_group new_port (invoke_group tree item g k)
      invoke_group-shared g = ap (λ list. record { name = []; kind = kinds.Plain; assigns = list; place = k.place })
          (ap₂ ◌++◌ (inputs-shared k.inputs) (ap₂ ◌∷◌ go-assign-shared
          (ap₂ ◌++◌ (captures-shared k.outputs (λ b i. i)) (ap (λ a. a ∷ []) (done_assign-shared g k.outputs (λ b i. i)))
          ∙ sym (map-append (moved_assign new_port) (flat_map (capture_assigns tree item k) k.outputs) (done_assign tree item k g k.outputs ∷ []))))
          ∙ sym (map-append (moved_assign new_port) (map (input_assign tree item k) k.inputs) (go_assign tree item k ∷ (flat_map (capture_assigns tree item k) k.outputs ++ (done_assign tree item k g k.outputs ∷ [])))))

      -- what a static invoke captures
      static_captures-shared : (list : List BindItem) → ((b : BindItem) → In list b → In k.outputs b)
          → flat_map (static_capture (shared_tree tree) twin (shared_invoked k)) (map (named_bind new_name) list) ≡ map (moved_assign new_port) (flat_map (static_capture tree item k) list)
      static_captures-shared [] among = refl
      static_captures-shared (b ∷ rest) among =
          ap₂ ◌∷◌ (assign_is _ _ Always Always _ _ k.place (port-shared b.value.form) refl (placed_here b.place b.name))
          (ap₂ ◌∷◌ (assign_is _ _ Always Always _ _ k.place (register_here b (among b (inl refl)) (codes "write_en")) refl refl)
          (static_captures-shared rest (λ c i. among c (inr i))))

      captures_for-shared : (list : List BindItem) → captures_for (shared_tree tree) twin (shared_invoked k) (map (named_bind new_name) list) ≡ map (moved_group new_port) (captures_for tree item k list)
      captures_for-shared [] = refl
      captures_for-shared (b ∷ rest) = ap (λ list. record { name = []; kind = kinds.Timed 1; assigns = list; place = k.place } ∷ []) (static_captures-shared k.outputs (λ c i. i))

      groups_for-shared : (static : Bool) (n : Next) → groups_for (shared_tree tree) twin static n (shared_invoked k) ≡ map (moved_group new_port) (groups_for tree item static n k)
      groups_for-shared true n = captures_for-shared k.outputs
      groups_for-shared false n = ap (λ g. g ∷ []) (invoke_group-shared n.group)

      captures_number-shared : (g : ℕ) (list : List BindItem) → captures_number (shared_tree tree) twin g (map (named_bind new_name) list) ≡ captures_number tree item g list
      captures_number-shared g [] = refl
      captures_number-shared g (b ∷ rest) = refl

      latency_is : invoke_latency (shared_tree tree) twin (shared_invoked k) ≡ invoke_latency tree item k
      latency_is = latency_kept (cell_among (new_name k.cell) twin.cells) (cell_among k.cell item.cells) (kept_pair k.cell)

      abbrev an_invoke : ℕ → Option ℕ → List PlainAssign → Option ℕ → PlainInvoke
      an_invoke cell latency inputs captures = record { cell = cell; written = k.written; length = k.length; latency = latency; inputs = inputs; captures = captures }

      plain_invoke-shared : (n : Next) → plain_invoke_of (shared_tree tree) twin n (shared_invoked k) ≡ shared_invoke (new_cell own_part) (plain_invoke_of tree item n k)
      plain_invoke-shared n =
          ap₂ (λ f x. f x) (ap₂ (λ f x. f x) (ap₂ an_invoke (number-shared k.cell) latency_is) (inputs-shared k.inputs)) (captures_number-shared n.group k.outputs)

      static_for-shared : (static : Bool) (n : Next) → static_for (shared_tree tree) twin static n (shared_invoked k) ≡ map (shared_invoke (new_cell own_part)) (static_for tree item static n k)
      static_for-shared true n = ap (λ v. v ∷ []) (plain_invoke-shared n)
      static_for-shared false n = refl

    -- NUMBERS of invokes and of their groups
    static-shared : (k : Invoke) → is_static_invoke (shared_tree tree) twin (shared_invoked k) ≡ is_static_invoke tree item k
    static-shared k = ap (λ latency. k.written || is_some latency) (latency_kept (cell_among (new_name k.cell) twin.cells) (cell_among k.cell item.cells) (kept_pair k.cell))

    count-shared : (list : List BindItem) → capture_count (shared_tree tree) twin (map (named_bind new_name) list) ≡ capture_count tree item list
    count-shared [] = refl
    count-shared (b ∷ rest) = refl

    after_static-shared : (static : Bool) (n : Next) (list : List BindItem) → after_static (shared_tree tree) twin static n (map (named_bind new_name) list) ≡ after_static tree item static n list
    after_static-shared true n list = ap (λ (count : ℕ). record { group = n.group + count; invoke = suc n.invoke }) (count-shared list)
    after_static-shared false n list = refl

    after-shared : (n : Next) (k : Invoke) → after (shared_tree tree) twin n (shared_invoked k) ≡ after tree item n k
    after-shared n k =
        ap (λ static. after_static (shared_tree tree) twin static n (map (named_bind new_name) k.outputs)) (static-shared k) ∙ after_static-shared (is_static_invoke tree item k) n k.outputs

    past-shared : (n : Next) (list : List Invoke) → past (shared_tree tree) twin n (map shared_invoked list) ≡ past tree item n list
    past-shared n [] = refl
    past-shared n (k ∷ rest) = ap (λ m. past (shared_tree tree) twin m (map shared_invoked rest)) (after-shared n k) ∙ past-shared (after tree item n k) rest

    invoke_groups-shared : (n : Next) (list : List Invoke) → ((k : Invoke) → In list k → IsInvoke k) → invoke_groups (shared_tree tree) twin n (map shared_invoked list) ≡ map (moved_group new_port) (invoke_groups tree item n list)
    invoke_groups-shared n [] all = refl
    invoke_groups-shared n (k ∷ rest) all =
        let own = ap (λ static. groups_for (shared_tree tree) twin static n (shared_invoked k)) (static-shared k) ∙ groups_for-shared k (all k (inl refl)) (is_static_invoke tree item k) n in
        let others = ap (λ m. invoke_groups (shared_tree tree) twin m (map shared_invoked rest)) (after-shared n k) ∙ invoke_groups-shared (after tree item n k) rest (λ c i. all c (inr i)) in
        ap₂ ◌++◌ own others ∙ sym (map-append (moved_group new_port) (groups_for tree item (is_static_invoke tree item k) n k) (invoke_groups tree item (after tree item n k) rest))

    static_invokes-shared : (n : Next) (list : List Invoke) → ((k : Invoke) → In list k → IsInvoke k) → static_invokes (shared_tree tree) twin n (map shared_invoked list) ≡ map (shared_invoke (new_cell own_part)) (static_invokes tree item n list)
    static_invokes-shared n [] all = refl
    static_invokes-shared n (k ∷ rest) all =
        let own = ap (λ static. static_for (shared_tree tree) twin static n (shared_invoked k)) (static-shared k) ∙ static_for-shared k (all k (inl refl)) (is_static_invoke tree item k) n in
        let others = ap (λ m. static_invokes (shared_tree tree) twin m (map shared_invoked rest)) (after-shared n k) ∙ static_invokes-shared (after tree item n k) rest (λ c i. all c (inr i)) in
        ap₂ ◌++◌ own others ∙ sym (map-append (shared_invoke (new_cell own_part)) (static_for tree item (is_static_invoke tree item k) n k) (static_invokes tree item (after tree item n k) rest))

    -- the invokes of a block are its shared invokes
    two_invoked : (xs ys us vs : List Invoke) → us ≡ map shared_invoked xs → vs ≡ map shared_invoked ys → us ++ vs ≡ map shared_invoked (xs ++ ys)
    two_invoked xs ys us vs e h = ap (λ z. z ++ vs) e ∙ ap (λ z. map shared_invoked xs ++ z) h ∙ sym (map-append shared_invoked xs ys)

    mutual
      form_invokes : (form : statements.PlainForm) (place : Place) → invokes_in (named_form new_name form) place ≡ map shared_invoked (invokes_in form place)
      form_invokes (statements.Enable group marks) place = refl
      form_invokes (statements.Seq marks block) place = block_invokes block
      form_invokes (statements.Par marks block) place = block_invokes block
      form_invokes (statements.StaticSeq length marks block) place = block_invokes block
      form_invokes (statements.StaticPar length marks block) place = block_invokes block
      form_invokes (statements.If test comb block otherwise) place = two_invoked (invokes_of block) (invokes_else otherwise) _ _ (block_invokes block) (else_invokes otherwise)
      form_invokes (statements.StaticIf length test block otherwise) place = two_invoked (invokes_of block) (invokes_else otherwise) _ _ (block_invokes block) (else_invokes otherwise)
      form_invokes (statements.While test comb body) place = block_invokes body
      form_invokes (statements.Repeat count body) place = block_invokes body
      form_invokes (statements.StaticRepeat length count body) place = block_invokes body
      form_invokes (statements.Invoke cell inputs outputs) place = refl
      form_invokes (statements.StaticInvoke length cell inputs outputs) place = refl

      else_invokes : (otherwise : statements.PlainElse) → invokes_else (named_else new_name otherwise) ≡ map shared_invoked (invokes_else otherwise)
      else_invokes statements.NoElse = refl
      else_invokes (statements.Else block) = block_invokes block

      block_invokes : (block : statements.PlainBlock) → invokes_of (named_block new_name block) ≡ map shared_invoked (invokes_of block)
      block_invokes (statements.Braces list place) = all_invokes list

      all_invokes : (list : statements.PlainStatements) → invokes_all (named_statements new_name list) ≡ map shared_invoked (invokes_all list)
      all_invokes statements.NoStatements = refl
      all_invokes (statements.StatementThen (statements.Placed attributes form place) rest) = two_invoked (invokes_in form place) (invokes_all rest) _ _ (form_invokes form place) (all_invokes rest)

    block_past : (n : Next) (block : statements.PlainBlock) → past (shared_tree tree) twin n (invokes_of (named_block new_name block)) ≡ past tree item n (invokes_of block)
    block_past n block = ap (past (shared_tree tree) twin n) (block_invokes block) ∙ past-shared n (invokes_of block)

    form_past : (n : Next) (form : statements.PlainForm) (place : Place) → past (shared_tree tree) twin n (invokes_in (named_form new_name form) place) ≡ past tree item n (invokes_in form place)
    form_past n form place = ap (past (shared_tree tree) twin n) (form_invokes form place) ∙ past-shared n (invokes_in form place)

    invoke_form-shared : (static : Bool) (n : Next) → invoke_form (shared_tree tree) twin static n ≡ moved_form new_port (invoke_form tree item static n)
    invoke_form-shared true n = refl
    invoke_form-shared false n = refl

    -- CONTROL
    group_number-shared : (name : List ℕ) → group_number (shared_tree tree) twin name ≡ group_number tree item name
    group_number-shared name = ap (number_or_0 name) group_names-shared

    comb-shared : (o : Option (List ℕ)) → comb_number (shared_tree tree) twin o ≡ comb_number tree item o
    comb-shared None = refl
    comb-shared (Some name) = ap Some (group_number-shared name)

    of_block-shared : (static : Bool) (place : Place) (ss : PlainStatements) → of_block (shared_tree tree) twin static place (moved_statements new_port ss) ≡ moved_statement new_port (of_block tree item static place ss)
    of_block-shared static place no_statements = refl
    of_block-shared static place (a_statement s no_statements) = refl
    of_block-shared true place (a_statement s (a_statement t rest)) = refl
    of_block-shared false place (a_statement s (a_statement t rest)) = refl

    mutual
      form-shared : (n : Next) (place : Place) (form : statements.PlainForm) → form_of (shared_tree tree) twin n place (named_form new_name form) ≡ moved_form new_port (form_of tree item n place form)
      form-shared n place (statements.Enable group marks) = ap plain.Enable (group_number-shared group)
      form-shared n place (statements.Seq marks block) = ap plain.Seq (parts-shared n block)
      form-shared n place (statements.Par marks block) = ap plain.Par (parts-shared n block)
      form-shared n place (statements.StaticSeq length marks block) = ap (plain.StaticSeq length) (parts-shared n block)
      form-shared n place (statements.StaticPar length marks block) = ap (plain.StaticPar length) (parts-shared n block)
      form-shared n place (statements.If test comb block otherwise) =
          if_is (placed-shared test) (comb-shared comb) (block-shared false n block)
          (ap (λ m. else_of (shared_tree tree) twin false m place (named_else new_name otherwise)) (block_past n block) ∙ else-shared false (past tree item n (invokes_of block)) place otherwise)
      form-shared n place (statements.StaticIf written test block otherwise) =
          static_if_is written (placed-shared test) (block-shared true n block)
          (ap (λ m. else_of (shared_tree tree) twin true m place (named_else new_name otherwise)) (block_past n block) ∙ else-shared true (past tree item n (invokes_of block)) place otherwise)
      form-shared n place (statements.While test comb body) = while_is (placed-shared test) (comb-shared comb) (block-shared false n body)
      form-shared n place (statements.Repeat count body) = ap (plain.Repeat count) (block-shared false n body)
      form-shared n place (statements.StaticRepeat length count body) = ap (plain.StaticRepeat length count) (block-shared true n body)
      form-shared n place (statements.Invoke cell inputs outputs) =
          let k : Invoke = record { cell = cell; written = false; length = None; inputs = inputs; outputs = outputs; place = place } in
          ap (λ static. invoke_form (shared_tree tree) twin static n) (static-shared k) ∙ invoke_form-shared (is_static_invoke tree item k) n
      form-shared n place (statements.StaticInvoke length cell inputs outputs) = refl

      else-shared : (static : Bool) (n : Next) (place : Place) (otherwise : statements.PlainElse) → else_of (shared_tree tree) twin static n place (named_else new_name otherwise) ≡ moved_statement new_port (else_of tree item static n place otherwise)
      else-shared static n place statements.NoElse = refl
      else-shared static n place (statements.Else block) = block-shared static n block

      block-shared : (static : Bool) (n : Next) (block : statements.PlainBlock) → block_of (shared_tree tree) twin static n (named_block new_name block) ≡ moved_statement new_port (block_of tree item static n block)
      block-shared static n (statements.Braces list place) = ap (of_block (shared_tree tree) twin static place) (all-shared n list) ∙ of_block-shared static place (all_of tree item n list)

      parts-shared : (n : Next) (block : statements.PlainBlock) → parts_of (shared_tree tree) twin n (named_block new_name block) ≡ moved_statements new_port (parts_of tree item n block)
      parts-shared n (statements.Braces list place) = all-shared n list

      all-shared : (n : Next) (list : statements.PlainStatements) → all_of (shared_tree tree) twin n (named_statements new_name list) ≡ moved_statements new_port (all_of tree item n list)
      all-shared n statements.NoStatements = refl
      all-shared n (statements.StatementThen (statements.Placed attributes form place) rest) =
          ap₂ a_statement (ap (λ f. Placed f place) (form-shared n place form))
          (ap (λ m. all_of (shared_tree tree) twin m (named_statements new_name rest)) (form_past n form place) ∙ all-shared (past tree item n (invokes_in form place)) rest)

    control_invokes-shared : (o : Option statements.PlainBlock) → control_invokes (shared_tree tree) twin (option_map (named_block new_name) o) ≡ map shared_invoked (control_invokes tree item o)
    control_invokes-shared None = refl
    control_invokes-shared (Some block) = block_invokes block

    first-shared : first (shared_tree tree) twin ≡ first tree item
    first-shared = ap (λ (names : List (List ℕ)). record { group = length names; invoke = 0 }) group_names-shared

    control-shared : (o : Option statements.PlainBlock) → control_of (shared_tree tree) twin (option_map (named_block new_name) o) ≡ moved_statement new_port (control_of tree item o)
    control-shared None = refl
    control-shared (Some block) = ap (λ n. block_of (shared_tree tree) twin false n (named_block new_name block)) first-shared ∙ block-shared false (first tree item) block

    all_groups-shared : ((k : Invoke) → In (control_invokes tree item item.control) k → IsInvoke k) → (component_of (shared_tree tree) twin).groups ≡ map (moved_group new_port) own_part.groups
    all_groups-shared all =
        ap₂ ◌++◌ (ap (map (group_of (shared_tree tree) twin)) (groups-shared item.wires) ∙ list-shared (groups_in item.wires))
        (ap₂ (invoke_groups (shared_tree tree) twin) first-shared (control_invokes-shared item.control)
        ∙ invoke_groups-shared (first tree item) (control_invokes tree item item.control) all)
        ∙ sym (map-append (moved_group new_port) (map (group_of tree item) (groups_in item.wires)) (invoke_groups tree item (first tree item) (control_invokes tree item item.control)))

    all_always-shared : (component_of (shared_tree tree) twin).always ≡ map (moved_assign new_port) own_part.always
    all_always-shared = ap (map (assign_of (shared_tree tree) twin)) (always-shared item.wires) ∙ assigns-shared (always_in item.wires)

    all_invokes-shared : ((k : Invoke) → In (control_invokes tree item item.control) k → IsInvoke k) → (component_of (shared_tree tree) twin).invokes ≡ map (shared_invoke (new_cell own_part)) own_part.invokes
    all_invokes-shared all =
        ap₂ (static_invokes (shared_tree tree) twin) first-shared (control_invokes-shared item.control) ∙ static_invokes-shared (first tree item) (control_invokes tree item item.control) all

    abbrev made : List PlainCell → List PlainGroup → List PlainInvoke → List PlainAssign → PlainStatement → PlainComponent
    made cells groups invokes always control = record {
      name = item.name;
      latency = item.length;
      inputs = own_part.inputs;
      outputs = own_part.outputs;
      cells = cells;
      groups = groups;
      invokes = invokes;
      always = always;
      control = control;
      place = item.place;
    }

    made_is : {a b : List PlainCell} {c d : List PlainGroup} {u v : List PlainInvoke} {e f : List PlainAssign} {s t : PlainStatement} → a ≡ b → c ≡ d → u ≡ v → e ≡ f → s ≡ t → made a c u e s ≡ made b d v f t
    made_is a b c d e = ap₂ (λ f x. f x) (ap₂ (λ f x. f x) (ap₂ (λ f x. f x) (ap₂ made a b) c) d) e

    -- THE COMPONENT of the shared tree
    pub component-shared : ((k : Invoke) → In (control_invokes tree item item.control) k → IsInvoke k) → component_of (shared_tree tree) twin ≡ shared_part own_part
    component-shared all = made_is (cells-shared 0 item.cells) (all_groups-shared all) (all_invokes-shared all) all_always-shared (control-shared item.control)
