-- THE SHARED TREE BREAKS NO RULE ON NAMES, where the tree breaks none.
use Rattle.std.proofs.Common.{◌≡◌, ℕ, zero, suc, ◌+◌, inl, inr, Bool, true, false, ◌||◌, ◌&&◌, is_some, is_none, List, [], ◌∷◌, ◌++◌, Option, Some, None, length, map, flat_map, option_map, slice_get, codes, refl, sym, ap, ap₂, ◌∙◌, subst, arith, true≢false}
use Rattle.std.specs.Prelude.{if◌then◌else◌, not}
use Rattle.std.proofs.lemmas.Bool.{or_right}
use Rattle.std.proofs.lemmas.List.{map-append}
use Rattle.cx_text.proofs.MemberLaws.{flat_is_none, image_in}
use Rattle.cx_text.specs.declared.places.Place.{Place}
use Rattle.cx_text.specs.declared.rules.Rule.{Rule}
use Rattle.cx_text.specs.declared.rules.Rule.TheVariants as rules
use Rattle.cx_ast.specs.declared.wiring.GroupWord.{GroupWord}
use Rattle.cx_ast.specs.declared.wiring.GroupWord.TheVariants as words
use Rattle.cx_text.specs.declared.diagnostics.Diagnostic.{Diagnostic}
use Rattle.cx_prim.specs.declared.ports.PortRow.{PortRow}
use Rattle.cx_prim.specs.Rows.{is_output_side}
use Rattle.cx_prim.specs.PortNames.{text_of}
use Rattle.cx_prim.specs.Table.{row_of}
use Rattle.cx_ast.specs.declared.operands.OperandItem.{OperandItem}
use Rattle.cx_ast.specs.declared.operands.OperandForm.{OperandForm}
use Rattle.cx_ast.specs.declared.operands.OperandForm.TheVariants as operands
use Rattle.cx_ast.specs.declared.statements.BindItem.{BindItem}
use Rattle.cx_ast.specs.PlainTree as ast
use Rattle.cx_ast.specs.PlainTree.{PlainTree}
use Rattle.cx_ast.specs.PlainGuards as guards
use Rattle.cx_ast.specs.PlainStatements as statements
use Rattle.cx_meaning.specs.Designs.{PlainComponent}
use Rattle.cx_text.specs.Members.{In}
use Rattle.cx_numbering.specs.Names.{same_name, is_among, cell_names, groups_in, always_in, cell_among, group_among, CellOf, Neither, APrimitive, AComponent, cell_of, cell_go, is_external}
use Rattle.cx_numbering.specs.DesignOf.{design_of}
use Rattle.cx_numbering.specs.NameRules.{tell_if, named, duplicates, bind_names, component_duplicates, operands_of, operands_in, guard_operands, Standing, standing, Visited, visit_parts, visit_else, visit_block, visit_all, statements_in, is_component, found_component, is_clock, is_static_end, is_unknown, unknown, is_left_out, is_hole, source_breaks, is_wrong_target, is_one, is_bare_done, assign_breaks, is_comb_word, is_comb_group, enable_breaks, with_breaks, output_rows, output_names, is_go_name, is_reg, found_reg, is_register_in, input_breaks, output_breaks, invoke_on, form_breaks, kind_breaks, is_narrow_memory, port_breaks, component_kinds, some_part, leads_back, cell_breaks, component_breaks, name_breaks, first_break, names_break, visit_control, kinds_of, circle_breaks}
use Rattle.cx_numbering.proofs.NamesLemmas.{is_among-cons}
use Rattle.cx_names.proofs.Base.{Distinct, append_none, tell_none, first_none}
use Rattle.cx_names.proofs.Kept.{KeptPart, kept, kept_part}
use Rattle.cx_copies.specs.Naming.{named_operand_form, named_operand, named_guard, named_guards, named_bind, named_form, named_else, named_block, named_statements, named_assign, named_group}
use Rattle.cx_sharing.specs.Giving.{stays}
use Rattle.cx_sharing.specs.SharedTree.{left_cells, shared_components, shared_tree}
use Rattle.cx_sharing.proofs.LimitsShared.{gone_is}
use Rattle.cx_rewritten.proofs.TreeDesign.{shared_item, shared_items, component_names-shared, shared_of, cell_of-shared, own_part, new_name, twin, KeptCell, the_same, of_one_kind, kept_pair, cell_ports-shared, groups-shared, always-shared, group_names-shared, kind_of_cell, primitive_is, latency_kept}
use Rattle.cx_text.proofs.ListLaws.{both_none}

-- LISTS OF BREAKS that are empty

told_none : (b : Bool) (rule : Rule) (place : Place) (name : List ℕ) → b ≡ false → tell_if b rule place name ≡ []
told_none b rule place name e = ap (λ t. tell_if t rule place name) e

-- the same test, told with another name
retold : (a b : Bool) (rule : Rule) (place : Place) (name other : List ℕ) → a ≡ b → tell_if b rule place other ≡ [] → tell_if a rule place name ≡ []
retold a b rule place name other e none = told_none a rule place name (e ∙ tell_none b rule place other none)

-- names of fewer parts are apart
duplicates-left : (stay : ℕ → Bool) (left : ℕ → List ast.PlainCell → List ast.PlainCell) → ((k : ℕ) → left k [] ≡ []) → ((k : ℕ) (cell : ast.PlainCell) (cells : List ast.PlainCell) → left k (cell ∷ cells) ≡ (if stay k then cell ∷ left (suc k) cells else left (suc k) cells))
    → (before fewer : List (List ℕ)) → ((n : List ℕ) → is_among n fewer ≡ true → is_among n before ≡ true) → (k : ℕ) (cells : List ast.PlainCell)
    → duplicates before (map (λ c. named c.name c.place) cells) ≡ [] → duplicates fewer (map (λ c. named c.name c.place) (left k cells)) ≡ []
duplicates-left stay left none next before fewer sub k [] h = ap (λ list. duplicates fewer (map (λ (c : ast.PlainCell). named c.name c.place) list)) (none k)
duplicates-left stay left none next before fewer sub k (cell ∷ cells) h =
    ap (λ list. duplicates fewer (map (λ (c : ast.PlainCell). named c.name c.place) list)) (next k cell cells)
    ∙ by (stay k) (append_none _ _ h)
    (duplicates-left stay left none next (cell.name ∷ before) (cell.name ∷ fewer) more (suc k) cells)
    (duplicates-left stay left none next (cell.name ∷ before) fewer later (suc k) cells)
  where
    more : (n : List ℕ) → is_among n (cell.name ∷ fewer) ≡ true → is_among n (cell.name ∷ before) ≡ true
    more n e = is_among-cons n cell.name before ∙ one (same_name cell.name n) (sym (is_among-cons n cell.name fewer) ∙ e)
      where
        one : (b : Bool) → (b || is_among n fewer) ≡ true → (b || is_among n before) ≡ true
        one true e = refl
        one false e = sub n e

    later : (n : List ℕ) → is_among n fewer ≡ true → is_among n (cell.name ∷ before) ≡ true
    later n e = is_among-cons n cell.name before ∙ or_right (same_name cell.name n) (is_among n before) (sub n e)

    new : is_among cell.name before ≡ false → is_among cell.name fewer ≡ false
    new off = by_value (is_among cell.name fewer) refl
      where
        by_value : (b : Bool) → is_among cell.name fewer ≡ b → b ≡ false
        by_value false e = refl
        by_value true e = absurd (true≢false (sym (sub cell.name e) ∙ off))

    by : (b : Bool) → (tell_if (is_among cell.name before) rules.Duplicate cell.place cell.name ≡ []) × (duplicates (cell.name ∷ before) (map (λ c. named c.name c.place) cells) ≡ [])
        → (duplicates (cell.name ∷ before) (map (λ c. named c.name c.place) cells) ≡ [] → duplicates (cell.name ∷ fewer) (map (λ c. named c.name c.place) (left (suc k) cells)) ≡ [])
        → (duplicates (cell.name ∷ before) (map (λ c. named c.name c.place) cells) ≡ [] → duplicates fewer (map (λ c. named c.name c.place) (left (suc k) cells)) ≡ [])
        → duplicates fewer (map (λ c. named c.name c.place) (if b then cell ∷ left (suc k) cells else left (suc k) cells)) ≡ []
    by true (first, rest) a c = both_none _ _ (told_none (is_among cell.name fewer) rules.Duplicate cell.place cell.name (new (tell_none _ _ _ _ first))) (a rest)
    by false (first, rest) a c = c rest

-- of the cells that stay
cells_in : (part : PlainComponent) (k : ℕ) (cells : List ast.PlainCell) (cell : ast.PlainCell) → In (left_cells part k cells) cell → In cells cell
cells_in part k [] cell i = absurd i
cells_in part k (c ∷ cells) cell i = by (stays part k) i (cells_in part (suc k) cells cell)
  where
    by : (b : Bool) → In (if b then c ∷ left_cells part (suc k) cells else left_cells part (suc k) cells) cell → (In (left_cells part (suc k) cells) cell → In cells cell) → In (c ∷ cells) cell
    by true (inl e) h = inl e
    by true (inr j) h = inr (h j)
    by false j h = inr (h j)

-- COMPONENTS keep what names say of them
named_parts : (parts : List PlainComponent) (items : List ast.PlainComponent) → map (λ item. named item.name item.place) (shared_components parts items) ≡ map (λ item. named item.name item.place) items
named_parts parts [] = refl
named_parts [] (item ∷ items) = refl
named_parts (part ∷ parts) (item ∷ items) = ap (λ z. named item.name item.place ∷ z) (named_parts parts items)

many_parts : (parts : List PlainComponent) (items : List ast.PlainComponent) → length (shared_components parts items) ≡ length items
many_parts parts [] = refl
many_parts [] (item ∷ items) = refl
many_parts (part ∷ parts) (item ∷ items) = ap suc (many_parts parts items)

-- RECURSION: the components of the cells that stay are those of the cells
module _ (tree : PlainTree) where
  kinds_kept : (of : CellOf) → kinds_of (shared_of tree of) ≡ map (shared_item tree) (kinds_of of)
  kinds_kept Neither = refl
  kinds_kept (APrimitive p) = refl
  kinds_kept (AComponent c) = refl

  abbrev kinds_in : List ast.PlainCell → List ast.PlainComponent
  kinds_in cells = flat_map (λ cell. kinds_of (cell_of tree cell)) cells

  abbrev shared_kinds_in : List ast.PlainCell → List ast.PlainComponent
  shared_kinds_in cells = flat_map (λ cell. kinds_of (cell_of (shared_tree tree) cell)) cells

  module _ (item : ast.PlainComponent) where
    gone_primitive : (c : ℕ) (cell : ast.PlainCell) → slice_get item.cells c ≡ Some cell → stays (own_part tree item) c ≡ false → kinds_of (cell_of tree cell) ≡ []
    gone_primitive c cell at gone =
        let r = gone_is (own_part tree item) c gone in
        ap kinds_of (primitive_is tree item (cell_of tree cell) r.primitive (sym (kind_of_cell tree item c cell at) ∙ r.kind))

    kinds-left : (k : ℕ) (cells : List ast.PlainCell) → ((c : ℕ) (cell : ast.PlainCell) → slice_get cells c ≡ Some cell → slice_get item.cells (k + c) ≡ Some cell)
        → shared_kinds_in (left_cells (own_part tree item) k cells) ≡ map (shared_item tree) (kinds_in cells)
    kinds-left k [] there = refl
    kinds-left k (cell ∷ cells) there = by (stays (own_part tree item) k) refl (kinds-left (suc k) cells later)
      where
        later : (c : ℕ) (x : ast.PlainCell) → slice_get cells c ≡ Some x → slice_get item.cells (suc k + c) ≡ Some x
        later c x e = let next : suc k + c ≡ k + suc c = omega arith in ap (slice_get item.cells) next ∙ there (suc c) x e

        here : slice_get item.cells k ≡ Some cell
        here = let none : k ≡ k + 0 = omega arith in ap (slice_get item.cells) none ∙ there 0 cell refl

        by : (b : Bool) → stays (own_part tree item) k ≡ b → shared_kinds_in (left_cells (own_part tree item) (suc k) cells) ≡ map (shared_item tree) (kinds_in cells)
            → shared_kinds_in (if b then cell ∷ left_cells (own_part tree item) (suc k) cells else left_cells (own_part tree item) (suc k) cells) ≡ map (shared_item tree) (kinds_of (cell_of tree cell) ++ kinds_in cells)
        by true on h = ap₂ ◌++◌ (ap kinds_of (cell_of-shared tree cell) ∙ kinds_kept (cell_of tree cell)) h ∙ sym (map-append (shared_item tree) (kinds_of (cell_of tree cell)) (kinds_in cells))
        by false off h = h ∙ ap (λ list. map (shared_item tree) (list ++ kinds_in cells)) (sym (gone_primitive k cell here off))

    kinds-shared : component_kinds (shared_tree tree) (shared_item tree item) ≡ map (shared_item tree) (component_kinds tree item)
    kinds-shared = kinds-left 0 item.cells (λ c cell e. let none : 0 + c ≡ c = omega arith in ap (slice_get item.cells) none ∙ e)

  some_kept : (test other : ast.PlainComponent → Bool) → ((c : ast.PlainComponent) → other (shared_item tree c) ≡ test c) → (list : List ast.PlainComponent) → some_part other (map (shared_item tree) list) ≡ some_part test list
  some_kept test other same [] = refl
  some_kept test other same (c ∷ rest) = ap₂ ◌||◌ (same c) (some_kept test other same rest)

  leads_kept : (name : List ℕ) (n : ℕ) (item : ast.PlainComponent) → leads_back (shared_tree tree) name n (shared_item tree item) ≡ leads_back tree name n item
  leads_kept name zero item = refl
  leads_kept name (suc n) item =
      ap (λ list. same_name item.name name || some_part (leads_back (shared_tree tree) name n) list) (kinds-shared item)
      ∙ ap (λ b. same_name item.name name || b) (some_kept (leads_back tree name n) (leads_back (shared_tree tree) name n) (leads_kept name n) (component_kinds tree item))

  module _ (item : ast.PlainComponent) (own : KeptPart tree item) (apart : Distinct (cell_names item)) where
    abbrev new : List ℕ → List ℕ
    new = new_name tree item

    abbrev other : ast.PlainComponent
    other = twin tree item

    -- WHAT A CELL IS OF, and what the cell is of that keeps it
    data OfPair : Option ast.PlainCell → Option ast.PlainCell → Type 0 where
      no_cells : OfPair None None
      two_cells : (kept given : ast.PlainCell) (of : CellOf) → cell_of (shared_tree tree) kept ≡ shared_of tree of → cell_of tree given ≡ of → OfPair (Some kept) (Some given)

    pair_of : (a b : Option ast.PlainCell) → KeptCell tree item apart a b → OfPair a b
    pair_of a b (the_same {cell = cell}) = by cell
      where
        by : (o : Option ast.PlainCell) → OfPair o o
        by None = no_cells
        by (Some x) = two_cells x x (cell_of tree x) (cell_of-shared tree x) refl
    pair_of a b (of_one_kind {kept} {given} p c k g) = two_cells kept given (APrimitive p) (cell_of-shared tree kept ∙ ap (shared_of tree) k) g

    named_pair : (name : List ℕ) → OfPair (cell_among (new name) other.cells) (cell_among name item.cells)
    named_pair name = pair_of (cell_among (new name) other.cells) (cell_among name item.cells) (kept_pair tree item apart name)

    component_kept : (of : CellOf) → is_component (shared_tree tree) other (shared_of tree of) ≡ is_component tree item of
    component_kept Neither = refl
    component_kept (APrimitive p) = refl
    component_kept (AComponent c) = refl

    found_kept : (a b : Option ast.PlainCell) → OfPair a b → found_component (shared_tree tree) other a ≡ found_component tree item b
    found_kept a b no_cells = refl
    found_kept a b (two_cells kept given of e h) = ap (is_component (shared_tree tree) other) e ∙ component_kept of ∙ ap (is_component tree item) (sym h)

    clock-shared : (cell port : List ℕ) → is_clock (shared_tree tree) other (new cell) port ≡ is_clock tree item cell port
    clock-shared cell port =
        ap (λ b. b && (same_name port (codes "clk") || same_name port (codes "reset"))) (found_kept (cell_among (new cell) other.cells) (cell_among cell item.cells) (named_pair cell))

    end-shared : (cell port : List ℕ) → is_static_end (shared_tree tree) other (new cell) port ≡ is_static_end tree item cell port
    end-shared cell port =
        ap (λ latency. is_some latency && (same_name port (codes "go") || same_name port (codes "done")))
        (latency_kept tree item apart (cell_among (new cell) other.cells) (cell_among cell item.cells) (kept_pair tree item apart cell))

    reg_kept : (of : CellOf) → is_reg (shared_tree tree) other (shared_of tree of) ≡ is_reg tree item of
    reg_kept Neither = refl
    reg_kept (APrimitive p) = refl
    reg_kept (AComponent c) = refl

    found_reg_kept : (a b : Option ast.PlainCell) → OfPair a b → found_reg (shared_tree tree) other a ≡ found_reg tree item b
    found_reg_kept a b no_cells = refl
    found_reg_kept a b (two_cells kept given of e h) = ap (is_reg (shared_tree tree) other) e ∙ reg_kept of ∙ ap (is_reg tree item) (sym h)

    -- OPERANDS
    unknown_kept : (form : OperandForm) → is_unknown (shared_tree tree) other (named_operand_form new form) ≡ is_unknown tree item form
    unknown_kept (operands.Own name) = refl
    unknown_kept (operands.Port cell port) = ap₂ (λ names b. not (is_among port names || b)) (cell_ports-shared tree item apart cell) (clock-shared cell port)
    unknown_kept (operands.Hole group hole) = ap (λ names. not (is_among group names && (same_name hole (codes "go") || same_name hole (codes "done")))) (group_names-shared tree item apart)
    unknown_kept (operands.Literal width value) = refl

    left_out_kept : (form : OperandForm) → is_left_out (shared_tree tree) other (named_operand_form new form) ≡ is_left_out tree item form
    left_out_kept (operands.Own name) = refl
    left_out_kept (operands.Port cell port) = ap₂ ◌||◌ (clock-shared cell port) (end-shared cell port)
    left_out_kept (operands.Hole group hole) = refl
    left_out_kept (operands.Literal width value) = refl

    hole_kept : (form : OperandForm) → is_hole (shared_tree tree) other (named_operand_form new form) ≡ is_hole tree item form
    hole_kept (operands.Own name) = refl
    hole_kept (operands.Port cell port) = refl
    hole_kept (operands.Hole group hole) = refl
    hole_kept (operands.Literal width value) = refl

    wrong_kept : (group : Option (List ℕ)) (form : OperandForm) → is_wrong_target (shared_tree tree) other group (named_operand_form new form) ≡ is_wrong_target tree item group form
    wrong_kept group (operands.Own name) = refl
    wrong_kept group (operands.Port cell port) = refl
    wrong_kept None (operands.Hole name hole) = refl
    wrong_kept (Some group) (operands.Hole name hole) = refl
    wrong_kept group (operands.Literal width value) = refl

    one_kept : (form : OperandForm) → is_one (shared_tree tree) other (named_operand_form new form) ≡ is_one tree item form
    one_kept (operands.Own name) = refl
    one_kept (operands.Port cell port) = refl
    one_kept (operands.Hole group hole) = refl
    one_kept (operands.Literal width value) = refl

    register_kept : (form : OperandForm) → is_register_in (shared_tree tree) other (named_operand_form new form) ≡ is_register_in tree item form
    register_kept (operands.Own name) = refl
    register_kept (operands.Port cell port) = ap (λ b. b && same_name port (codes "in")) (found_reg_kept (cell_among (new cell) other.cells) (cell_among cell item.cells) (named_pair cell))
    register_kept (operands.Hole group hole) = refl
    register_kept (operands.Literal width value) = refl

    known_operand : (o : OperandItem) → unknown tree item o ≡ [] → unknown (shared_tree tree) other (named_operand new o) ≡ []
    known_operand o none = retold _ _ _ o.place _ _ (unknown_kept o.form) none

    source_operand : (o : OperandItem) → source_breaks tree item o ≡ [] → source_breaks (shared_tree tree) other (named_operand new o) ≡ []
    source_operand o none =
        let two = append_none _ _ none in
        both_none _ _ (known_operand o two.0) (retold _ _ _ o.place _ _ (ap₂ ◌||◌ (left_out_kept o.form) (hole_kept o.form)) two.1)

    mutual
      operands_of-named : (g : guards.PlainGuard) → operands_of (named_guard new g) ≡ map (named_operand new) (operands_of g)
      operands_of-named (guards.Or gs) = operands_in-named gs
      operands_of-named (guards.And gs) = operands_in-named gs
      operands_of-named (guards.Compare c left right) = refl
      operands_of-named (guards.Not g) = operands_of-named g
      operands_of-named (guards.Operand o) = refl
      operands_of-named (guards.At n) = refl
      operands_of-named (guards.During from to) = refl

      operands_in-named : (gs : guards.PlainGuards) → operands_in (named_guards new gs) ≡ map (named_operand new) (operands_in gs)
      operands_in-named guards.NoGuards = refl
      operands_in-named (guards.GuardThen g gs) = ap₂ ◌++◌ (operands_of-named g) (operands_in-named gs) ∙ sym (map-append (named_operand new) (operands_of g) (operands_in gs))

    guard_operands-named : (o : Option guards.PlainGuard) → guard_operands (option_map (named_guard new) o) ≡ map (named_operand new) (guard_operands o)
    guard_operands-named None = refl
    guard_operands-named (Some g) = operands_of-named g

    -- what breaks no rule in a list, renamed, breaks none
    list_kept : {A B : Type 0} (f : A → B) (old : A → List Diagnostic) (renewed : B → List Diagnostic) → ((x : A) → old x ≡ [] → renewed (f x) ≡ []) → (list : List A) → flat_map old list ≡ [] → flat_map renewed (map f list) ≡ []
    list_kept f old renewed each [] none = refl
    list_kept f old renewed each (x ∷ rest) none = let two = append_none _ _ none in both_none _ _ (each x two.0) (list_kept f old renewed each rest two.1)

    -- ASSIGNMENTS
    abbrev pub shared_standing : Standing → Standing
    shared_standing x = record { group = x.group; assign = named_assign new x.assign }

    bare_kept : (a : ast.PlainAssign) → is_bare_done (shared_tree tree) other (named_assign new a) ≡ is_bare_done tree item a
    bare_kept a = ap₂ ◌&&◌ (ap₂ ◌&&◌ (hole_kept a.target.form) (none a.guard)) (one_kept a.source.form)
      where
        none : (o : Option guards.PlainGuard) → is_none (option_map (named_guard new) o) ≡ is_none o
        none None = refl
        none (Some g) = refl

    assign_kept : (x : Standing) → assign_breaks tree item x ≡ [] → assign_breaks (shared_tree tree) other (shared_standing x) ≡ []
    assign_kept x none =
        let three = append_none _ _ none in
        let two = append_none _ _ three.0 in
        let one = append_none _ _ two.0 in
        both_none _ _ (both_none _ _ (both_none _ _ (known_operand x.assign.target one.0)
        (retold _ _ _ x.assign.target.place _ _ (ap₂ ◌||◌ (ap₂ ◌||◌ (left_out_kept x.assign.target.form) (wrong_kept x.group x.assign.target.form)) (bare_kept x.assign)) one.1))
        (source_operand x.assign.source two.1))
        (ap (flat_map (source_breaks (shared_tree tree) other)) (guard_operands-named x.assign.guard)
        ∙ list_kept (named_operand new) (source_breaks tree item) (source_breaks (shared_tree tree) other) source_operand (guard_operands x.assign.guard) three.1)

    standing-groups : (gs : List ast.PlainGroup) → flat_map (λ (g : ast.PlainGroup). map (λ a. record { group = Some g.name; assign = a }) g.assigns) (map (named_group new) gs)
        ≡ map shared_standing (flat_map (λ (g : ast.PlainGroup). map (λ a. record { group = Some g.name; assign = a }) g.assigns) gs)
    standing-groups [] = refl
    standing-groups (g ∷ gs) = ap₂ ◌++◌ (own_list g.assigns) (standing-groups gs) ∙ sym (map-append shared_standing (map (λ a. record { group = Some g.name; assign = a }) g.assigns) (flat_map (λ (h : ast.PlainGroup). map (λ a. record { group = Some h.name; assign = a }) h.assigns) gs))
      where
        own_list : (list : List ast.PlainAssign) → map (λ a. record { group = Some g.name; assign = a }) (map (named_assign new) list) ≡ map shared_standing (map (λ a. record { group = Some g.name; assign = a }) list)
        own_list [] = refl
        own_list (a ∷ rest) = ap (λ z. record { group = Some g.name; assign = named_assign new a } ∷ z) (own_list rest)

    standing-always : (list : List ast.PlainAssign) → map (λ a. record { group = None; assign = a }) (map (named_assign new) list) ≡ map shared_standing (map (λ a. record { group = None; assign = a }) list)
    standing-always [] = refl
    standing-always (a ∷ rest) = ap (λ z. record { group = None; assign = named_assign new a } ∷ z) (standing-always rest)

    pub standing-shared : standing other ≡ map shared_standing (standing item)
    standing-shared =
        ap₂ ◌++◌ (ap (map (λ a. record { group = None; assign = a })) (always-shared tree item apart item.wires) ∙ standing-always (always_in item.wires))
        (ap (flat_map (λ (g : ast.PlainGroup). map (λ a. record { group = Some g.name; assign = a }) g.assigns)) (groups-shared tree item apart item.wires) ∙ standing-groups (groups_in item.wires))
        ∙ sym (map-append shared_standing (map (λ a. record { group = None; assign = a }) (always_in item.wires)) (flat_map (λ (g : ast.PlainGroup). map (λ a. record { group = Some g.name; assign = a }) g.assigns) (groups_in item.wires)))

    -- STATEMENTS
    abbrev pub shared_visited : Visited → Visited
    shared_visited v = record { form = named_form new v.form; place = v.place }

    two_visited : (xs ys us vs : List Visited) → us ≡ map shared_visited xs → vs ≡ map shared_visited ys → us ++ vs ≡ map shared_visited (xs ++ ys)
    two_visited xs ys us vs e h = ap₂ ◌++◌ e h ∙ sym (map-append shared_visited xs ys)

    mutual
      parts_visit : (form : statements.PlainForm) → visit_parts (named_form new form) ≡ map shared_visited (visit_parts form)
      parts_visit (statements.Enable group marks) = refl
      parts_visit (statements.Seq marks block) = block_visit block
      parts_visit (statements.Par marks block) = block_visit block
      parts_visit (statements.StaticSeq written marks block) = block_visit block
      parts_visit (statements.StaticPar written marks block) = block_visit block
      parts_visit (statements.If test comb block otherwise) = two_visited (visit_block block) (visit_else otherwise) _ _ (block_visit block) (else_visit otherwise)
      parts_visit (statements.StaticIf written test block otherwise) = two_visited (visit_block block) (visit_else otherwise) _ _ (block_visit block) (else_visit otherwise)
      parts_visit (statements.While test comb body) = block_visit body
      parts_visit (statements.Repeat count body) = block_visit body
      parts_visit (statements.StaticRepeat written count body) = block_visit body
      parts_visit (statements.Invoke cell inputs outputs) = refl
      parts_visit (statements.StaticInvoke written cell inputs outputs) = refl

      else_visit : (otherwise : statements.PlainElse) → visit_else (named_else new otherwise) ≡ map shared_visited (visit_else otherwise)
      else_visit statements.NoElse = refl
      else_visit (statements.Else block) = block_visit block

      block_visit : (block : statements.PlainBlock) → visit_block (named_block new block) ≡ map shared_visited (visit_block block)
      block_visit (statements.Braces list place) = all_visit list

      all_visit : (list : statements.PlainStatements) → visit_all (named_statements new list) ≡ map shared_visited (visit_all list)
      all_visit statements.NoStatements = refl
      all_visit (statements.StatementThen (statements.Placed attributes form place) rest) =
          ap (λ z. record { form = named_form new form; place = place } ∷ z) (two_visited (visit_parts form) (visit_all rest) _ _ (parts_visit form) (all_visit rest))

    pub statements-shared : statements_in other ≡ map shared_visited (statements_in item)
    statements-shared = by item.control
      where
        by : (o : Option statements.PlainBlock) → visit_control (option_map (named_block new) o) ≡ map shared_visited (visit_control o)
        by None = refl
        by (Some block) = block_visit block

    -- groups by name
    among_kept : (name : List ℕ) (gs : List ast.PlainGroup) → group_among name (map (named_group new) gs) ≡ option_map (named_group new) (group_among name gs)
    among_kept name [] = refl
    among_kept name (g ∷ gs) = by (same_name g.name name) (among_kept name gs)
      where
        by : (b : Bool) → group_among name (map (named_group new) gs) ≡ option_map (named_group new) (group_among name gs)
            → (if b then Some (named_group new g) else group_among name (map (named_group new) gs)) ≡ option_map (named_group new) (if b then Some g else group_among name gs)
        by true h = refl
        by false h = h

    comb_group_kept : (name : List ℕ) → is_comb_group (shared_tree tree) other (group_among name (groups_in other.wires)) ≡ is_comb_group tree item (group_among name (groups_in item.wires))
    comb_group_kept name = ap (λ gs. is_comb_group (shared_tree tree) other (group_among name gs)) (groups-shared tree item apart item.wires) ∙ ap (is_comb_group (shared_tree tree) other) (among_kept name (groups_in item.wires)) ∙ by (group_among name (groups_in item.wires))
      where
        word : (w : GroupWord) → is_comb_word (shared_tree tree) other w ≡ is_comb_word tree item w
        word words.Plain = refl
        word words.Comb = refl
        word (words.Timed n) = refl

        by : (o : Option ast.PlainGroup) → is_comb_group (shared_tree tree) other (option_map (named_group new) o) ≡ is_comb_group tree item o
        by None = refl
        by (Some g) = word g.kind

    enable_kept : (name : List ℕ) (place : Place) → enable_breaks (shared_tree tree) other name place ≡ enable_breaks tree item name place
    enable_kept name place =
        ap₂ (λ names b. tell_if (not (is_among name names)) rules.UnknownName place name ++ tell_if b rules.LeftOut place name) (group_names-shared tree item apart) (comb_group_kept name)

    with_kept : (o : Option (List ℕ)) (place : Place) → with_breaks (shared_tree tree) other o place ≡ with_breaks tree item o place
    with_kept None place = refl
    with_kept (Some name) place =
        ap₂ (λ names b. tell_if (not (is_among name names)) rules.UnknownName place name ++ tell_if (not b) rules.LeftOut place name) (group_names-shared tree item apart) (comb_group_kept name)

    -- INVOKES
    binds_kept : (list : List BindItem) → bind_names (map (named_bind new) list) ≡ bind_names list
    binds_kept [] = refl
    binds_kept (b ∷ rest) = ap (λ z. named b.name b.place ∷ z) (binds_kept rest)

    rows_kept : (list : List PortRow) → output_rows (shared_tree tree) other list ≡ output_rows tree item list
    rows_kept [] = refl
    rows_kept (port ∷ rest) = ap (λ z. if is_output_side port.side then text_of port.name ∷ z else z) (rows_kept rest)

    outputs_kept : (of : CellOf) → output_names (shared_tree tree) other (shared_of tree of) ≡ output_names tree item of
    outputs_kept Neither = refl
    outputs_kept (APrimitive p) = rows_kept (row_of p).ports
    outputs_kept (AComponent c) = refl

    go_kept : (of : CellOf) → cell_go (shared_of tree of) ≡ cell_go of
    go_kept Neither = refl
    go_kept (APrimitive p) = refl
    go_kept (AComponent c) = refl

    go_name_kept : (o : Option (List ℕ)) (name : List ℕ) → is_go_name (shared_tree tree) other o name ≡ is_go_name tree item o name
    go_name_kept None name = refl
    go_name_kept (Some go) name = refl

    input_kept : (cell : List ℕ) (of : CellOf) (b : BindItem) → input_breaks tree item cell of b ≡ [] → input_breaks (shared_tree tree) other (new cell) (shared_of tree of) (named_bind new b) ≡ []
    input_kept cell of b none =
        let two = append_none _ _ none in
        let one = append_none _ _ two.0 in
        both_none _ _ (both_none _ _
        (retold _ _ _ b.place _ _ (ap₂ (λ names t. not (is_among b.name names || t)) (cell_ports-shared tree item apart cell) (clock-shared cell b.name)) one.0)
        (retold _ _ _ b.place _ _ (ap₂ ◌||◌ (ap₂ ◌||◌ (ap (is_among b.name) (outputs_kept of)) (ap (λ o. is_go_name (shared_tree tree) other o b.name) (go_kept of) ∙ go_name_kept (cell_go of) b.name)) (clock-shared cell b.name)) one.1))
        (source_operand b.value two.1)

    output_kept : (cell : List ℕ) (of : CellOf) (b : BindItem) → output_breaks tree item cell of b ≡ [] → output_breaks (shared_tree tree) other (new cell) (shared_of tree of) (named_bind new b) ≡ []
    output_kept cell of b none =
        let three = append_none _ _ none in
        let two = append_none _ _ three.0 in
        let one = append_none _ _ two.0 in
        both_none _ _ (both_none _ _ (both_none _ _
        (retold _ _ _ b.place _ _ (ap₂ (λ names t. not (is_among b.name names || t)) (cell_ports-shared tree item apart cell) (clock-shared cell b.name)) one.0)
        (retold _ _ _ b.place _ _ (ap₂ (λ names end. not (is_among b.name names) || end) (outputs_kept of) (end-shared cell b.name)) one.1))
        (known_operand b.value two.1))
        (retold _ _ _ b.value.place _ _ (ap not (register_kept b.value.form)) three.1)

    invoke_kept : (cell : List ℕ) (inputs outputs : List BindItem) (place : Place) (a b : Option ast.PlainCell) → OfPair a b → invoke_on tree item cell inputs outputs place b ≡ []
        → invoke_on (shared_tree tree) other (new cell) (map (named_bind new) inputs) (map (named_bind new) outputs) place a ≡ []
    invoke_kept cell inputs outputs place a b no_cells none = absurd (cc)
    invoke_kept cell inputs outputs place a b (two_cells kept given of e h) none =
        let two = append_none _ _ none in
        let one = append_none _ _ two.0 in
        let ins : flat_map (input_breaks tree item cell of) inputs ≡ [] = ap (λ x. flat_map (input_breaks tree item cell x) inputs) (sym h) ∙ one.1 in
        let outs : flat_map (output_breaks tree item cell of) outputs ≡ [] = ap (λ x. flat_map (output_breaks tree item cell x) outputs) (sym h) ∙ two.1 in
        both_none _ _ (both_none _ _
        (retold _ _ _ place _ _ (ap is_none (ap cell_go e ∙ go_kept of ∙ ap cell_go (sym h))) one.0)
        (ap (λ x. flat_map (input_breaks (shared_tree tree) other (new cell) x) (map (named_bind new) inputs)) e
        ∙ list_kept (named_bind new) (input_breaks tree item cell of) (input_breaks (shared_tree tree) other (new cell) (shared_of tree of)) (input_kept cell of) inputs ins))
        (ap (λ x. flat_map (output_breaks (shared_tree tree) other (new cell) x) (map (named_bind new) outputs)) e
        ∙ list_kept (named_bind new) (output_breaks tree item cell of) (output_breaks (shared_tree tree) other (new cell) (shared_of tree of)) (output_kept cell of) outputs outs)

    bound_kept : (cell : List ℕ) (inputs outputs : List BindItem) (place : Place) → form_breaks tree item (statements.Invoke cell inputs outputs) place ≡ []
        → form_breaks (shared_tree tree) other (named_form new (statements.Invoke cell inputs outputs)) place ≡ []
    bound_kept cell inputs outputs place none =
        let two = append_none _ _ none in
        let one = append_none _ _ two.0 in
        both_none _ _ (both_none _ _ (ap (duplicates []) (binds_kept inputs) ∙ one.0) (ap (duplicates []) (binds_kept outputs) ∙ one.1))
        (invoke_kept cell inputs outputs place (cell_among (new cell) other.cells) (cell_among cell item.cells) (named_pair cell) two.1)

    form_kept : (form : statements.PlainForm) (place : Place) → form_breaks tree item form place ≡ [] → form_breaks (shared_tree tree) other (named_form new form) place ≡ []
    form_kept (statements.Enable group marks) place none = enable_kept group place ∙ none
    form_kept (statements.Seq marks block) place none = refl
    form_kept (statements.Par marks block) place none = refl
    form_kept (statements.StaticSeq written marks block) place none = refl
    form_kept (statements.StaticPar written marks block) place none = refl
    form_kept (statements.If test comb block otherwise) place none = let two = append_none _ _ none in both_none _ _ (with_kept comb place ∙ two.0) (source_operand test two.1)
    form_kept (statements.StaticIf written test block otherwise) place none = source_operand test none
    form_kept (statements.While test comb body) place none = let two = append_none _ _ none in both_none _ _ (with_kept comb place ∙ two.0) (source_operand test two.1)
    form_kept (statements.Repeat count body) place none = refl
    form_kept (statements.StaticRepeat written count body) place none = refl
    form_kept (statements.Invoke cell inputs outputs) place none = bound_kept cell inputs outputs place none
    form_kept (statements.StaticInvoke written cell inputs outputs) place none = bound_kept cell inputs outputs place none

    -- CELLS
    kind_kept : (cell : ast.PlainCell) (of : CellOf) → kind_breaks tree item cell of ≡ [] → kind_breaks (shared_tree tree) other cell (shared_of tree of) ≡ []
    kind_kept cell Neither none = absurd (cc)
    kind_kept cell (APrimitive p) none = none
    kind_kept cell (AComponent c) none = none

    narrow_kept : (of : CellOf) → is_narrow_memory (shared_tree tree) other (shared_of tree of) ≡ is_narrow_memory tree item of
    narrow_kept Neither = refl
    narrow_kept (APrimitive p) = refl
    narrow_kept (AComponent c) = refl

    circle_kept : (cell : ast.PlainCell) (of : CellOf) → circle_breaks tree item cell of ≡ [] → circle_breaks (shared_tree tree) other cell (shared_of tree of) ≡ []
    circle_kept cell Neither none = refl
    circle_kept cell (APrimitive p) none = refl
    circle_kept cell (AComponent c) none =
        retold _ _ _ cell.place _ _ (ap (λ n. leads_back (shared_tree tree) item.name n (shared_item tree c)) (many_parts (design_of tree).components tree.components) ∙ leads_kept item.name (length tree.components) c) none

    cell_kept : (cell : ast.PlainCell) → cell_breaks tree item cell ≡ [] → cell_breaks (shared_tree tree) other cell ≡ []
    cell_kept cell none =
        let two = append_none _ _ none in
        let one = append_none _ _ two.0 in
        both_none _ _ (both_none _ _ (ap (kind_breaks (shared_tree tree) other cell) (cell_of-shared tree cell) ∙ kind_kept cell (cell_of tree cell) one.0)
        (retold _ _ _ cell.place _ _ (ap (λ b. is_external cell && not (same_name item.name (codes "main") && b)) (ap (is_narrow_memory (shared_tree tree) other) (cell_of-shared tree cell) ∙ narrow_kept (cell_of tree cell))) one.1))
        (ap (circle_breaks (shared_tree tree) other cell) (cell_of-shared tree cell) ∙ circle_kept cell (cell_of tree cell) two.1)

    groups_named : (gs : List ast.PlainGroup) → map (λ (g : ast.PlainGroup). named g.name g.place) (map (named_group new) gs) ≡ map (λ (g : ast.PlainGroup). named g.name g.place) gs
    groups_named [] = refl
    groups_named (g ∷ gs) = ap (λ z. named g.name g.place ∷ z) (groups_named gs)

    twice_kept : component_duplicates other ≡ []
    twice_kept =
        let two = append_none _ _ own.twice in
        let one = append_none _ _ two.0 in
        both_none _ _ (both_none _ _ one.0
        (duplicates-left (stays (own_part tree item)) (left_cells (own_part tree item)) (λ k. refl) (λ k cell cells. refl) [] [] (λ n e. e) 0 item.cells one.1))
        (ap (λ gs. duplicates [] (map (λ (g : ast.PlainGroup). named g.name g.place) gs)) (groups-shared tree item apart item.wires) ∙ ap (duplicates []) (groups_named (groups_in item.wires)) ∙ two.1)

    -- A COMPONENT
    pub component_kept_names : component_breaks (shared_tree tree) other ≡ []
    component_kept_names =
        both_none _ _ (both_none _ _ (both_none _ _ (both_none _ _ (both_none _ _ (both_none _ _ (both_none _ _ own.primitive own.dynamic) twice_kept)
        (flat_is_none (port_breaks (shared_tree tree) other true) item.inputs (λ port i. own.inputs port i)))
        (flat_is_none (port_breaks (shared_tree tree) other false) item.outputs (λ port i. own.outputs port i)))
        (flat_is_none (cell_breaks (shared_tree tree) other) other.cells (λ cell i. cell_kept cell (own.cells cell (cells_in (own_part tree item) 0 item.cells cell i)))))
        (flat_is_none (assign_breaks (shared_tree tree) other) (standing other) (λ x i.
        let r = image_in shared_standing (standing item) x (subst (λ list. In list x) standing-shared i) in
        subst (λ y. assign_breaks (shared_tree tree) other y ≡ []) r.2 (assign_kept r.0 (own.assigns r.0 r.1)))))
        (flat_is_none (λ (v : Visited). form_breaks (shared_tree tree) other v.form v.place) (statements_in other) (λ v i.
        let r = image_in shared_visited (statements_in item) v (subst (λ list. In list v) statements-shared i) in
        subst (λ (y : Visited). form_breaks (shared_tree tree) other y.form y.place ≡ []) r.2 (form_kept r.0.form r.0.place (own.statements r.0 r.1))))

-- ALL NAMES
pub names_shared : (tree : PlainTree) → ((item : ast.PlainComponent) → In tree.components item → Distinct (cell_names item)) → names_break tree ≡ None → names_break (shared_tree tree) ≡ None
names_shared tree apart none =
    let all = kept tree none in
    let three = append_none _ _ (first_none (name_breaks tree) none) in
    let two = append_none _ _ three.0 in
    let one = append_none _ _ two.0 in
    ap first_break (both_none _ _ (both_none _ _ (both_none _ _
    (ap (λ names. tell_if (not (is_among (codes "main") names)) rules.NoMain (record { line = 1; column = 1 }) []) (component_names-shared tree) ∙ one.0)
    one.1)
    (ap (duplicates []) (named_parts (design_of tree).components tree.components) ∙ two.1))
    (flat_is_none (component_breaks (shared_tree tree)) (shared_tree tree).components (λ x i.
    let r = image_in (shared_item tree) tree.components x (subst (λ list. In list x) (shared_items tree tree.components) i) in
    subst (λ y. component_breaks (shared_tree tree) y ≡ []) r.2 (component_kept_names tree r.0 (kept_part tree r.0 (all.parts r.0 r.1)) (apart r.0 r.1)))))
