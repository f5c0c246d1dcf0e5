-- A TREE WITH OTHER NAMES OF CELLS is printable, where the names are names; so is the shared tree.
use Rattle.std.proofs.Common.{◌≡◌, ℕ, zero, suc, ◌<◌, Bool, true, false, List, [], ◌∷◌, length, Option, Some, None, map, option_map, refl, sym, ◌∙◌, subst, arith}
use Rattle.std.proofs.lemmas.List.{length-map}
use Rattle.std.specs.Prelude.{if◌then◌else◌}
use Rattle.std.specs.List.{AllByRecursion}
use Rattle.cx_ast.specs.declared.operands.OperandForm.{OperandForm}
use Rattle.cx_ast.specs.declared.operands.OperandForm.TheVariants as operands
use Rattle.cx_ast.specs.declared.statements.BindItem.{BindItem}
use Rattle.cx_ast.specs.PlainTree as ast
use Rattle.cx_ast.specs.PlainTree.{PlainTree}
use Rattle.cx_ast.specs.PlainGuards as guards
use Rattle.cx_ast.specs.PlainStatements as statements
use Rattle.cx_meaning.specs.Designs.{PlainCell, PlainComponent}
use Rattle.cx_rules.specs.Ports.{cell_name}
use Rattle.cx_numbering.specs.Names.{number_of}
use Rattle.cx_numbering.specs.DesignOf.{plain_cell_of, component_of}
use Rattle.cx_print.specs.declared.guards.Binding.{Binding}
use Rattle.cx_print.specs.declared.guards.Binding.TheVariants.{NotPart}
use Rattle.cx_print.specs.Pieces.{needs_parens}
use Rattle.cx_print.specs.Printable.{IsName, IfThere, IsForm, IsNoLiteral, IsBind, IsWrapped, HasTwo, IsInside, AreParts, IsGuard, IsControl, IsElse, IsStatement, AreStatements, IsBlock, IsAssign, IsWire, IsCell, IsComponent, IsPrintable}
use Rattle.cx_copies.specs.Naming.{named_operand_form, named_guard, named_guards, named_bind, named_form, named_else, named_statement, named_block, named_statements, named_assign, named_wire}
use Rattle.cx_sharing.specs.Giving.{keeper, stays}
use Rattle.cx_sharing.specs.SharedTree.{keeper_name, kept_name, left_cells, shared_tree}
use Rattle.cx_names_scopes.proofs.NameLemmas.{number_within}
use Rattle.cx_sharing.proofs.KeeperLemmas.{keeper_within}
use Rattle.cx_rewritten.proofs.NumberLemmas.{names_of}
use Rattle.cx_rewritten.proofs.TreeDesign.{shared_item, shared_items}

module _ (name : List ℕ → List ℕ) (names : (n : List ℕ) → IsName n → IsName (name n)) where
  -- all of a list that is mapped
  all_map : {A B : Type 0} (P : A → Type 0) (Q : B → Type 0) (f : A → B) → ((x : A) → P x → Q (f x)) → (list : List A) → AllByRecursion P list → AllByRecursion Q (map f list)
  all_map P Q f each [] all = tt
  all_map P Q f each (x ∷ rest) all = (each x all.0, all_map P Q f each rest all.1)

  form_named : (form : OperandForm) → IsForm form → IsForm (named_operand_form name form)
  form_named (operands.Own port) h = h
  form_named (operands.Port cell port) h = (names cell h.0, h.1)
  form_named (operands.Hole group hole) h = h
  form_named (operands.Literal width value) h = h

  no_literal_named : (form : OperandForm) → IsNoLiteral form → IsNoLiteral (named_operand_form name form)
  no_literal_named (operands.Own port) h = h
  no_literal_named (operands.Port cell port) h = h
  no_literal_named (operands.Hole group hole) h = h
  no_literal_named (operands.Literal width value) h = h

  bind_named : (b : BindItem) → IsBind b → IsBind (named_bind name b)
  bind_named b h = (h.0, form_named b.value.form h.1)

  -- GUARDS
  parens_named : (binding : Binding) (g : guards.PlainGuard) → needs_parens binding (named_guard name g) ≡ needs_parens binding g
  parens_named binding (guards.Or gs) = refl
  parens_named binding (guards.And gs) = refl
  parens_named binding (guards.Compare c left right) = refl
  parens_named binding (guards.Not g) = refl
  parens_named binding (guards.Operand o) = refl
  parens_named binding (guards.At n) = refl
  parens_named binding (guards.During from to) = refl

  two_named : (gs : guards.PlainGuards) → HasTwo gs → HasTwo (named_guards name gs)
  two_named guards.NoGuards h = h
  two_named (guards.GuardThen g guards.NoGuards) h = h
  two_named (guards.GuardThen g (guards.GuardThen k gs)) h = h

  wrapped_named : (b : Bool) (P Q : ℕ → Type 0) → ((n : ℕ) → P n → Q n) → (n : ℕ) → IsWrapped b P n → IsWrapped b Q n
  wrapped_named true P Q each zero h = h
  wrapped_named true P Q each (suc n) h = each n h
  wrapped_named false P Q each n h = each n h

  mutual
    guard_named : (g : guards.PlainGuard) (n : ℕ) → IsInside g n → IsInside (named_guard name g) n
    guard_named (guards.Or gs) n h = (two_named gs h.0, guards_named _ gs n h.1)
    guard_named (guards.And gs) n h = (two_named gs h.0, guards_named _ gs n h.1)
    guard_named (guards.Compare c left right) n h = (form_named left.form h.0, form_named right.form h.1)
    guard_named (guards.Not g) zero h = h
    guard_named (guards.Not g) (suc n) h =
        subst (λ b. IsWrapped b (IsInside (named_guard name g)) n) (sym (parens_named NotPart g)) (wrapped_named (needs_parens NotPart g) (IsInside g) (IsInside (named_guard name g)) (λ m k. guard_named g m k) n h)
    guard_named (guards.Operand o) n h = form_named o.form h
    guard_named (guards.At at) n h = h
    guard_named (guards.During from to) n h = h

    guards_named : (binding : Binding) (gs : guards.PlainGuards) (n : ℕ) → AreParts binding gs n → AreParts binding (named_guards name gs) n
    guards_named binding guards.NoGuards n h = h
    guards_named binding (guards.GuardThen g gs) n h = (
      subst (λ b. IsWrapped b (IsInside (named_guard name g)) n) (sym (parens_named binding g)) (wrapped_named (needs_parens binding g) (IsInside g) (IsInside (named_guard name g)) (λ m k. guard_named g m k) n h.0),
      guards_named binding gs n h.1,
    )

  option_named : (o : Option guards.PlainGuard) → IfThere IsGuard o → IfThere IsGuard (option_map (named_guard name) o)
  option_named None h = h
  option_named (Some g) h = guard_named g 64 h

  -- CONTROL
  mutual
    control_named : (form : statements.PlainForm) (n : ℕ) → IsControl form n → IsControl (named_form name form) n
    control_named (statements.Enable group ms) n h = h
    control_named (statements.Seq ms block) n h = (h.0, block_named block n h.1)
    control_named (statements.Par ms block) n h = (h.0, block_named block n h.1)
    control_named (statements.StaticSeq length ms block) n h = (h.0, h.1, block_named block n h.2)
    control_named (statements.StaticPar length ms block) n h = (h.0, h.1, block_named block n h.2)
    control_named (statements.If test comb body otherwise) n h = (form_named test.form h.0, h.1, block_named body n h.2, else_named otherwise n h.3)
    control_named (statements.StaticIf length test body otherwise) n h = (h.0, form_named test.form h.1, block_named body n h.2, else_named otherwise n h.3)
    control_named (statements.While test comb body) n h = (form_named test.form h.0, h.1, block_named body n h.2)
    control_named (statements.Repeat count body) n h = (h.0, block_named body n h.1)
    control_named (statements.StaticRepeat length count body) n h = (h.0, h.1, block_named body n h.2)
    control_named (statements.Invoke cell inputs outputs) n h = (names cell h.0, all_map IsBind IsBind (named_bind name) bind_named inputs h.1, all_map IsBind IsBind (named_bind name) bind_named outputs h.2)
    control_named (statements.StaticInvoke length cell inputs outputs) n h = (h.0, names cell h.1, all_map IsBind IsBind (named_bind name) bind_named inputs h.2, all_map IsBind IsBind (named_bind name) bind_named outputs h.3)

    else_named : (otherwise : statements.PlainElse) (n : ℕ) → IsElse otherwise n → IsElse (named_else name otherwise) n
    else_named statements.NoElse n h = h
    else_named (statements.Else block) n h = block_named block n h

    statement_named : (s : statements.PlainStatement) (n : ℕ) → IsStatement s n → IsStatement (named_statement name s) n
    statement_named (statements.Placed attributes form place) n h = (h.0, control_named form n h.1)

    statements_named : (ss : statements.PlainStatements) (n : ℕ) → AreStatements ss n → AreStatements (named_statements name ss) n
    statements_named statements.NoStatements n h = h
    statements_named (statements.StatementThen s ss) n h = (statement_named s n h.0, statements_named ss n h.1)

    block_named : (block : statements.PlainBlock) (n : ℕ) → IsBlock block n → IsBlock (named_block name block) n
    block_named (statements.Braces ss place) zero h = h
    block_named (statements.Braces ss place) (suc n) h = statements_named ss n h

  control_option : (o : Option statements.PlainBlock) → IfThere (λ block. IsBlock block 64) o → IfThere (λ block. IsBlock block 64) (option_map (named_block name) o)
  control_option None h = h
  control_option (Some block) h = block_named block 64 h

  assign_named : (a : ast.PlainAssign) → IsAssign a → IsAssign (named_assign name a)
  assign_named a h = (h.0, (form_named a.target.form h.1.0, no_literal_named a.target.form h.1.1), option_named a.guard h.2, form_named a.source.form h.3)

  wire_named : (w : ast.PlainWire) → IsWire w → IsWire (named_wire name w)
  wire_named (ast.Group g) h = (h.0, h.1, h.2, h.3, all_map IsAssign IsAssign (named_assign name) assign_named g.assigns h.4)
  wire_named (ast.Assign a) h = assign_named a h

  pub wires_named : (list : List ast.PlainWire) → AllByRecursion IsWire list → AllByRecursion IsWire (map (named_wire name) list)
  wires_named list h = all_map IsWire IsWire (named_wire name) wire_named list h

  pub control_is_named : (o : Option statements.PlainBlock) → IfThere (λ block. IsBlock block 64) o → IfThere (λ block. IsBlock block 64) (option_map (named_block name) o)
  control_is_named o h = control_option o h

-- THE SHARED TREE
cells_left : (part : PlainComponent) (k : ℕ) (cells : List ast.PlainCell) → AllByRecursion IsCell cells → AllByRecursion IsCell (left_cells part k cells)
cells_left part k [] h = h
cells_left part k (cell ∷ cells) h = by (stays part k) (cells_left part (suc k) cells h.1)
  where
    by : (b : Bool) → AllByRecursion IsCell (left_cells part (suc k) cells) → AllByRecursion IsCell (if b then cell ∷ left_cells part (suc k) cells else left_cells part (suc k) cells)
    by true rest = (h.0, rest)
    by false rest = rest

-- a kept name is a name
cell_named : (tree : PlainTree) (item : ast.PlainComponent) (cells : List ast.PlainCell) → AllByRecursion IsCell cells → (c : ℕ) → c < length cells → IsName (cell_name (map (plain_cell_of tree item) cells) c)
cell_named tree item [] h c lt = absurd (omega (arith, lt))
cell_named tree item (cell ∷ cells) h zero lt = h.0.1
cell_named tree item (cell ∷ cells) h (suc c) lt = cell_named tree item cells h.1 c (omega (arith, lt))

module _ (tree : PlainTree) (item : ast.PlainComponent) where
  kept_is_name : AllByRecursion IsCell item.cells → (name : List ℕ) → IsName name → IsName (kept_name (component_of tree item) name)
  kept_is_name cells name is = by (number_of name (names_of (component_of tree item).cells)) refl
    where
      by : (o : Option ℕ) → number_of name (names_of (component_of tree item).cells) ≡ o → IsName (keeper_name (component_of tree item) o name)
      by None e = is
      by (Some c) e =
          let few = number_within name (names_of (component_of tree item).cells) c e in
          let names = length-map (component_of tree item).cells (λ (cell : PlainCell). cell.name) in
          let many : length (component_of tree item).cells ≡ length item.cells = length-map item.cells (plain_cell_of tree item) in
          let kept = keeper_within (component_of tree item) c (omega (arith, few, names)) in
          cell_named tree item item.cells cells (keeper (component_of tree item) c) (omega (arith, kept, many))

  component_printable : IsComponent item → IsComponent (shared_item tree item)
  component_printable h = record {
    attributes = h.attributes;
    length = h.length;
    name = h.name;
    marks = h.marks;
    inputs = h.inputs;
    outputs = h.outputs;
    cells = cells_left (component_of tree item) 0 item.cells h.cells;
    wires = wires_named (kept_name (component_of tree item)) (kept_is_name h.cells) item.wires h.wires;
    control = control_is_named (kept_name (component_of tree item)) (kept_is_name h.cells) item.control h.control;
  }

components_printable : (tree : PlainTree) (items : List ast.PlainComponent) → AllByRecursion IsComponent items → AllByRecursion IsComponent (map (shared_item tree) items)
components_printable tree [] h = h
components_printable tree (item ∷ items) h = (component_printable tree item h.0, components_printable tree items h.1)

pub printable-shared : (tree : PlainTree) → IsPrintable tree → IsPrintable (shared_tree tree)
printable-shared tree h = record {
  imports = h.imports;
  some = λ e. h.some (none tree.components (sym (shared_items tree tree.components) ∙ e));
  components = subst (AllByRecursion IsComponent) (sym (shared_items tree tree.components)) (components_printable tree tree.components h.components);
}
  where
    none : (items : List ast.PlainComponent) → map (shared_item tree) items ≡ [] → items ≡ []
    none [] e = refl
    none (item ∷ items) e = absurd (cc)
