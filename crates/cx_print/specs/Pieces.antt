-- The tokens of a tree, with the layout before each: what each part adds behind what is there.
use Rattle.std.specs.Prelude.{ℕ, Bool, true, false, List, [], ◌∷◌, ◌++◌, Option, Some, None, codes, map}
use Rattle.cx_ast.specs.declared.signs.Sign.{Sign}
use Rattle.cx_ast.specs.declared.signs.Sign.TheVariants as signs
use Rattle.cx_ast.specs.declared.tokens.TokenKind.{TokenKind}
use Rattle.cx_ast.specs.declared.tokens.TokenKind.TheVariants as kinds
use Rattle.cx_ast.specs.declared.components.Attribute.{Attribute}
use Rattle.cx_ast.specs.declared.components.Mark.{Mark}
use Rattle.cx_ast.specs.declared.guards.Comparison.{Comparison}
use Rattle.cx_ast.specs.declared.guards.Comparison.TheVariants as comparisons
use Rattle.cx_ast.specs.declared.operands.OperandForm.{OperandForm}
use Rattle.cx_ast.specs.declared.operands.OperandForm.TheVariants as operands
use Rattle.cx_ast.specs.declared.operands.OperandItem.{OperandItem}
use Rattle.cx_ast.specs.declared.statements.BindItem.{BindItem}
use Rattle.cx_ast.specs.declared.trees.ImportItem.{ImportItem}
use Rattle.cx_ast.specs.declared.wiring.GroupWord.{GroupWord}
use Rattle.cx_ast.specs.declared.wiring.GroupWord.TheVariants as group_words
use Rattle.cx_ast.specs.PlainGuards.{PlainGuard, PlainGuards, NoGuards, GuardThen}
use Rattle.cx_ast.specs.PlainGuards as guards
use Rattle.cx_ast.specs.PlainStatements.{PlainForm, PlainElse, NoElse, Else, PlainStatement, Placed, PlainStatements, NoStatements, StatementThen, PlainBlock, Braces}
use Rattle.cx_ast.specs.PlainStatements as plain
use Rattle.cx_ast.specs.PlainTree.{PlainPort, PlainCell, PlainAssign, PlainGroup, PlainWire, PlainComponent, PlainTree}
use Rattle.cx_ast.specs.PlainTree as wires
use Rattle.cx_print.specs.declared.guards.Binding.{Binding}
use Rattle.cx_print.specs.declared.guards.Binding.TheVariants.{Whole, OrPart, AndPart, NotPart}
use Rattle.cx_print.specs.declared.pieces.Gap.{Gap}
use Rattle.cx_print.specs.declared.pieces.Gap.TheVariants.{Tight, Space, Line}
use Rattle.cx_print.specs.declared.pieces.Piece.{Piece}

abbrev pub Pieces : Type 0
Pieces = List Piece

abbrev pub put : Gap → TokenKind → Pieces → Pieces
put gap kind before = before ++ record { gap = gap; kind = kind } ∷ []

abbrev pub put_sign : Gap → Sign → Pieces → Pieces
put_sign gap s = put gap (kinds.Sign s)

abbrev pub put_word : Gap → List ℕ → Pieces → Pieces
put_word gap bytes = put gap (kinds.Word bytes)

abbrev pub put_number : Gap → ℕ → Pieces → Pieces
put_number gap n = put gap (kinds.Number n)

-- one or more, with commas between
abbrev pub more_of : {A : Type 0} → (Gap → A → Pieces → Pieces) → List A → Pieces → Pieces
more_of add [] before = before
more_of add (x ∷ xs) before = more_of add xs (add Space x (put_sign Tight signs.Comma before))

abbrev pub with_commas : {A : Type 0} → (Gap → A → Pieces → Pieces) → List A → Pieces → Pieces
with_commas add [] before = before
with_commas add (x ∷ xs) before = more_of add xs (add Tight x before)

-- one after the other, each on a line of its own
abbrev pub add_lines : {A : Type 0} → (Gap → A → Pieces → Pieces) → List A → Pieces → Pieces
add_lines add [] before = before
add_lines add (x ∷ xs) before = add_lines add xs (add Line x before)

abbrev pub add_attribute_number : Option ℕ → Pieces → Pieces
add_attribute_number None before = before
add_attribute_number (Some n) before =
    put_sign Tight signs.CloseParen (put_number Tight n (put_sign Tight signs.OpenParen before))

abbrev pub add_attribute : Gap → Attribute → Pieces → Pieces
add_attribute gap a before = add_attribute_number a.number (put_word Tight a.name (put_sign gap signs.At before))

abbrev pub add_attributes : Gap → List Attribute → Pieces → Pieces
add_attributes gap [] before = before
add_attributes gap (a ∷ attrs) before = add_attributes Space attrs (add_attribute gap a before)

abbrev pub behind_attributes : Gap → List Attribute → Gap
behind_attributes gap [] = gap
behind_attributes gap (a ∷ attrs) = Space

abbrev pub add_mark : Gap → Mark → Pieces → Pieces
add_mark gap m before = put_number Space m.number (put_sign Space signs.Equal (put gap (kinds.Text m.name) before))

abbrev pub add_marks : List Mark → Pieces → Pieces
add_marks [] before = before
add_marks (m ∷ ms) before =
    put_sign Tight signs.Greater (more_of add_mark ms (add_mark Tight m (put_sign Tight signs.Less before)))

abbrev pub behind_marks : List Mark → Gap
behind_marks [] = Tight
behind_marks (m ∷ ms) = Space

abbrev pub add_length : Option ℕ → Pieces → Pieces
add_length None before = before
add_length (Some n) before = put_sign Tight signs.Greater (put_number Tight n (put_sign Tight signs.Less before))

abbrev pub add_form : Gap → OperandForm → Pieces → Pieces
add_form gap (operands.Own port) before = put_word gap port before
add_form gap (operands.Port cell port) before =
    put_word Tight port (put_sign Tight signs.Dot (put_word gap cell before))
add_form gap (operands.Hole group hole) before =
    put_sign Tight signs.CloseBracket
    (put_word Tight hole (put_sign Tight signs.OpenBracket (put_word gap group before)))
add_form gap (operands.Literal width value) before = put gap (kinds.Literal width value) before

abbrev pub add_operand : Gap → OperandItem → Pieces → Pieces
add_operand gap o before = add_form gap o.form before

abbrev pub add_bind : Gap → BindItem → Pieces → Pieces
add_bind gap b before = add_operand Space b.value (put_sign Space signs.Equal (put_word gap b.name before))

abbrev pub add_binds : List BindItem → Pieces → Pieces
add_binds bs before = put_sign Tight signs.CloseParen (with_commas add_bind bs (put_sign Tight signs.OpenParen before))

-- guards
abbrev pub comparison_sign : Comparison → Sign
comparison_sign comparisons.Equal = signs.EqualEqual
comparison_sign comparisons.NotEqual = signs.NotEqual
comparison_sign comparisons.Less = signs.Less
comparison_sign comparisons.Greater = signs.Greater
comparison_sign comparisons.LessEqual = signs.LessEqual
comparison_sign comparisons.GreaterEqual = signs.GreaterEqual

abbrev pub or_wraps : Binding → Bool
or_wraps Whole = false
or_wraps OrPart = true
or_wraps AndPart = true
or_wraps NotPart = true

abbrev pub and_wraps : Binding → Bool
and_wraps Whole = false
and_wraps OrPart = false
and_wraps AndPart = true
and_wraps NotPart = true

abbrev pub compare_wraps : Binding → Bool
compare_wraps Whole = false
compare_wraps OrPart = false
compare_wraps AndPart = false
compare_wraps NotPart = true

-- whether a guard stands in parentheses there
abbrev pub needs_parens : Binding → PlainGuard → Bool
needs_parens binding (guards.Or gs) = or_wraps binding
needs_parens binding (guards.And gs) = and_wraps binding
needs_parens binding (guards.Compare c left right) = compare_wraps binding
needs_parens binding (guards.Not g) = false
needs_parens binding (guards.Operand o) = false
needs_parens binding (guards.At n) = false
needs_parens binding (guards.During from to) = false

-- what a guard adds, in parentheses where they are needed
abbrev pub wrapped : Bool → (Gap → Pieces → Pieces) → Gap → Pieces → Pieces
wrapped true inside gap before = put_sign Tight signs.CloseParen (inside Tight (put_sign gap signs.OpenParen before))
wrapped false inside gap before = inside gap before

abbrev pub add_during : Gap → ℕ → ℕ → Pieces → Pieces
add_during gap from to before =
    put_sign Tight signs.CloseBracket (put_number Tight to
    (put_sign Tight signs.Colon
    (put_number Tight from (put_sign Tight signs.OpenBracket (put_sign gap signs.Percent before)))))

-- the sign before a part, where it is not the first
abbrev pub put_between : Bool → Sign → Pieces → Pieces
put_between true s before = put_sign Space s before
put_between false s before = before

abbrev mutual
  pub add_inside : PlainGuard → Gap → Pieces → Pieces
  add_inside (guards.Or gs) gap before = add_parts OrPart signs.Or false gs gap before
  add_inside (guards.And gs) gap before = add_parts AndPart signs.And false gs gap before
  add_inside (guards.Compare c left right) gap before =
      add_operand Space right (put_sign Space (comparison_sign c) (add_operand gap left before))
  add_inside (guards.Not g) gap before =
      wrapped (needs_parens NotPart g) (add_inside g) Tight (put_sign gap signs.Not before)
  add_inside (guards.Operand o) gap before = add_operand gap o before
  add_inside (guards.At n) gap before = put_number Tight n (put_sign gap signs.Percent before)
  add_inside (guards.During from to) gap before = add_during gap from to before

  pub add_parts : Binding → Sign → Bool → PlainGuards → Gap → Pieces → Pieces
  add_parts binding between is_behind NoGuards gap before = before
  add_parts binding between is_behind (GuardThen g gs) gap before =
      add_parts binding between true gs Space
      (wrapped (needs_parens binding g) (add_inside g) gap (put_between is_behind between before))

abbrev pub add_guard : Binding → PlainGuard → Gap → Pieces → Pieces
add_guard binding g gap before = wrapped (needs_parens binding g) (add_inside g) gap before

-- control
abbrev pub add_marked : Gap → List ℕ → List Mark → Pieces → Pieces
add_marked gap bytes ms before = add_marks ms (put_word gap bytes before)

abbrev pub add_comb : Option (List ℕ) → Pieces → Pieces
add_comb None before = before
add_comb (Some comb) before = put_word Space comb (put_word Space (codes "with") before)

abbrev pub add_static : Gap → Option ℕ → List ℕ → Pieces → Pieces
add_static gap length bytes before = put_word Space bytes (add_length length (put_word gap (codes "static") before))

abbrev pub add_invoke : List ℕ → List BindItem → List BindItem → Pieces → Pieces
add_invoke cell inputs outputs before =
    put_sign Tight signs.Semicolon (add_binds outputs (add_binds inputs (put_word Space cell before)))

abbrev mutual
  pub add_control : Gap → PlainForm → Pieces → Pieces
  add_control gap (plain.Enable group ms) before =
      put_sign (behind_marks ms) signs.Semicolon (add_marked gap group ms before)
  add_control gap (plain.Seq ms block) before = add_block block (add_marks ms (put_word gap (codes "seq") before))
  add_control gap (plain.Par ms block) before = add_block block (add_marks ms (put_word gap (codes "par") before))
  add_control gap (plain.StaticSeq length ms block) before =
      add_block block (add_marks ms (add_static gap length (codes "seq") before))
  add_control gap (plain.StaticPar length ms block) before =
      add_block block (add_marks ms (add_static gap length (codes "par") before))
  add_control gap (plain.If test comb body otherwise) before =
      add_else otherwise
      (add_block body (add_comb comb (add_operand Space test (put_word gap (codes "if") before))))
  add_control gap (plain.StaticIf length test body otherwise) before =
      add_else otherwise
      (add_block body (add_operand Space test (add_static gap length (codes "if") before)))
  add_control gap (plain.While test comb body) before =
      add_block body (add_comb comb (add_operand Space test (put_word gap (codes "while") before)))
  add_control gap (plain.Repeat count body) before =
      add_block body (put_number Space count (put_word gap (codes "repeat") before))
  add_control gap (plain.StaticRepeat length count body) before =
      add_block body (put_number Space count (add_static gap length (codes "repeat") before))
  add_control gap (plain.Invoke cell inputs outputs) before =
      add_invoke cell inputs outputs (put_word gap (codes "invoke") before)
  add_control gap (plain.StaticInvoke length cell inputs outputs) before =
      add_invoke cell inputs outputs (add_static gap length (codes "invoke") before)

  pub add_else : PlainElse → Pieces → Pieces
  add_else NoElse before = before
  add_else (Else block) before = add_block block (put_word Space (codes "else") before)

  pub add_statement : Gap → PlainStatement → Pieces → Pieces
  add_statement gap (Placed attrs form place) before =
      add_control (behind_attributes gap attrs) form (add_attributes gap attrs before)

  pub add_statements : PlainStatements → Pieces → Pieces
  add_statements NoStatements before = before
  add_statements (StatementThen s ss) before = add_statements ss (add_statement Line s before)

  pub add_block : PlainBlock → Pieces → Pieces
  add_block (Braces ss place) before =
      put_sign Line signs.CloseBrace (add_statements ss (put_sign Space signs.OpenBrace before))

-- wiring
abbrev pub add_condition : Option PlainGuard → Pieces → Pieces
add_condition None before = before
add_condition (Some g) before = put_sign Space signs.Question (add_guard Whole g Space before)

abbrev pub add_assign : Gap → PlainAssign → Pieces → Pieces
add_assign gap a before =
    put_sign Tight signs.Semicolon (add_operand Space a.source
    (add_condition a.guard (put_sign Space signs.Equal
    (add_operand (behind_attributes gap a.attributes) a.target (add_attributes gap a.attributes before)))))

abbrev pub add_group_word : Gap → GroupWord → Pieces → Pieces
add_group_word gap group_words.Plain before = put_word gap (codes "group") before
add_group_word gap group_words.Comb before = put_word Space (codes "group") (put_word gap (codes "comb") before)
add_group_word gap (group_words.Timed n) before = add_static gap (Some n) (codes "group") before

abbrev pub add_group : Gap → PlainGroup → Pieces → Pieces
add_group gap g before =
    put_sign Line signs.CloseBrace (add_lines add_assign g.assigns
    (put_sign Space signs.OpenBrace (add_marks g.marks
    (put_word Space g.name (add_group_word (behind_attributes gap g.attributes) g.kind
    (add_attributes gap g.attributes before))))))

abbrev pub add_wire : Gap → PlainWire → Pieces → Pieces
add_wire gap (wires.Group g) before = add_group gap g before
add_wire gap (wires.Assign a) before = add_assign gap a before

-- components
abbrev pub add_port : Gap → PlainPort → Pieces → Pieces
add_port gap p before =
    put_number Space p.width (put_sign Tight signs.Colon
    (put_word (behind_attributes gap p.attributes) p.name (add_attributes gap p.attributes before)))

abbrev pub add_ports : Gap → List PlainPort → Pieces → Pieces
add_ports gap ps before =
    put_sign Tight signs.CloseParen (with_commas add_port ps (put_sign gap signs.OpenParen before))

abbrev pub add_outputs : List PlainPort → Pieces → Pieces
add_outputs [] before = before
add_outputs (p ∷ ps) before = add_ports Space (p ∷ ps) (put_sign Space signs.Arrow before)

abbrev pub add_numbers : List ℕ → Pieces → Pieces
add_numbers ns before =
    put_sign Tight signs.CloseParen (with_commas put_number ns (put_sign Tight signs.OpenParen before))

abbrev pub add_cell : Gap → PlainCell → Pieces → Pieces
add_cell gap c before =
    put_sign Tight signs.Semicolon (add_numbers c.numbers
    (put_word Space c.kind (put_sign Space signs.Equal
    (add_marks c.marks
    (put_word (behind_attributes gap c.attributes) c.name (add_attributes gap c.attributes before))))))

abbrev pub add_component_word : Gap → Option ℕ → Pieces → Pieces
add_component_word gap None before = put_word gap (codes "component") before
add_component_word gap (Some n) before = add_static gap (Some n) (codes "component") before

abbrev pub add_control_part : Option PlainBlock → Pieces → Pieces
add_control_part None before = before
add_control_part (Some block) before = add_block block (put_word Line (codes "control") before)

-- a word and the lines behind it, in braces
abbrev pub add_section : {A : Type 0} → (Gap → A → Pieces → Pieces) → List ℕ → List A → Pieces → Pieces
add_section add bytes xs before =
    put_sign Line signs.CloseBrace
    (add_lines add xs (put_sign Space signs.OpenBrace (put_word Line bytes before)))

abbrev pub add_signature : Gap → PlainComponent → Pieces → Pieces
add_signature gap c before =
    add_outputs c.outputs (add_ports (behind_marks c.marks) c.inputs
    (add_marks c.marks (put_word Space c.name
    (add_component_word (behind_attributes gap c.attributes) c.length
    (add_attributes gap c.attributes before)))))

abbrev pub add_component : Gap → PlainComponent → Pieces → Pieces
add_component gap c before =
    put_sign Line signs.CloseBrace (add_control_part c.control
    (add_section add_wire (codes "wires") c.wires
    (add_section add_cell (codes "cells") c.cells
    (put_sign Space signs.OpenBrace (add_signature gap c before)))))

abbrev pub add_import : Gap → ImportItem → Pieces → Pieces
add_import gap i before =
    put_sign Tight signs.Semicolon (put Space (kinds.Text i.path) (put_word gap (codes "import") before))

-- one after the other, the first behind this gap and each other on a line of its own
abbrev pub add_from : {A : Type 0} → (Gap → A → Pieces → Pieces) → Gap → List A → Pieces → Pieces
add_from add gap [] before = before
add_from add gap (x ∷ xs) before = add_from add Line xs (add gap x before)

abbrev pub behind_imports : List ImportItem → Gap
behind_imports [] = Tight
behind_imports (i ∷ is) = Line

abbrev pub add_tree : PlainTree → Pieces → Pieces
add_tree t before =
    add_from add_component (behind_imports t.imports) t.components
    (add_from add_import Tight t.imports before)

-- what is printed of a tree
abbrev pub pieces_of : PlainTree → Pieces
pieces_of t = add_tree t []

abbrev pub kinds_in : Pieces → List TokenKind
kinds_in ps = map (λ (p : Piece). p.kind) ps

-- the tokens of a tree, in their order
abbrev pub tokens_of : PlainTree → List TokenKind
tokens_of t = kinds_in (pieces_of t)
