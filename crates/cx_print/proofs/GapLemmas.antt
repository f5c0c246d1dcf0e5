-- Between two tokens that would run into one another stands a blank, in the pieces of every tree.
use Rattle.std.proofs.Common.{◌≡◌, ℕ, Bool, true, false, ◌&&◌, ◌==◌, List, [], ◌∷◌, Option, Some, None, codes, refl}
use Rattle.cx_ast.specs.declared.signs.Sign.{Sign}
use Rattle.cx_ast.specs.declared.signs.Sign.TheVariants as signs
use Rattle.cx_ast.specs.declared.tokens.TokenKind.{TokenKind}
use Rattle.cx_ast.specs.declared.tokens.TokenKind.TheVariants as kinds
use Rattle.cx_ast.specs.declared.components.Attribute.{Attribute}
use Rattle.cx_ast.specs.declared.components.Mark.{Mark}
use Rattle.cx_ast.specs.declared.operands.OperandForm.{OperandForm}
use Rattle.cx_ast.specs.declared.operands.OperandForm.TheVariants as operands
use Rattle.cx_ast.specs.declared.operands.OperandItem.{OperandItem}
use Rattle.cx_ast.specs.declared.statements.BindItem.{BindItem}
use Rattle.cx_ast.specs.declared.trees.ImportItem.{ImportItem}
use Rattle.cx_ast.specs.declared.wiring.GroupWord.{GroupWord}
use Rattle.cx_ast.specs.declared.wiring.GroupWord.TheVariants as group_words
use Rattle.cx_ast.specs.PlainGuards.{PlainGuard, PlainGuards, NoGuards, GuardThen}
use Rattle.cx_ast.specs.PlainGuards as guards
use Rattle.cx_ast.specs.PlainStatements.{PlainForm, PlainElse, NoElse, Else, PlainStatement, Placed, PlainStatements, NoStatements, StatementThen, PlainBlock, Braces}
use Rattle.cx_ast.specs.PlainStatements as plain
use Rattle.cx_ast.specs.PlainTree.{PlainPort, PlainCell, PlainAssign, PlainGroup, PlainWire, PlainComponent, PlainTree}
use Rattle.cx_ast.specs.PlainTree as wires
use Rattle.cx_lex.specs.Lex.{sign_bytes}
use Rattle.cx_print.specs.declared.guards.Binding.{Binding}
use Rattle.cx_print.specs.declared.guards.Binding.TheVariants.{Whole, OrPart, AndPart, NotPart}
use Rattle.cx_print.specs.declared.pieces.Gap.{Gap}
use Rattle.cx_print.specs.declared.pieces.Gap.TheVariants.{Tight, Space, Line}
use Rattle.cx_print.specs.declared.pieces.Piece.{Piece}
use Rattle.cx_print.specs.Pieces.{Pieces, put, put_sign, put_word, put_number, more_of, with_commas, add_lines, add_attribute_number, add_attribute, add_attributes, behind_attributes, add_mark, add_marks, behind_marks, add_length, add_form, add_operand, add_bind, add_binds, comparison_sign, needs_parens, wrapped, add_during, put_between, add_inside, add_parts, add_guard, add_comb, add_static, add_invoke, add_control, add_else, add_statement, add_statements, add_block, add_condition, add_assign, add_group_word, add_group, add_wire, add_port, add_ports, add_outputs, add_numbers, add_cell, add_component_word, add_control_part, add_section, add_signature, add_component, add_import, add_from, behind_imports, pieces_of}

-- a word, number or literal
abbrev pub is_wordy : TokenKind → Bool
is_wordy (kinds.Word bytes) = true
is_wordy (kinds.Number n) = true
is_wordy (kinds.Literal width value) = true
is_wordy (kinds.Text bytes) = false
is_wordy (kinds.Sign s) = false

abbrev pub first_of : List ℕ → ℕ
first_of [] = 0
first_of (b ∷ bs) = b

-- a sign that begins with `=`
abbrev pub begins_equal : TokenKind → Bool
begins_equal (kinds.Word bytes) = false
begins_equal (kinds.Number n) = false
begins_equal (kinds.Literal width value) = false
begins_equal (kinds.Text bytes) = false
begins_equal (kinds.Sign s) = first_of (sign_bytes s) == 61

-- without a gap no word follows a word, and nothing that begins with `=` anything
abbrev pub MayFollow : Bool → Gap → TokenKind → Type 0
MayFollow wordy gap kind = gap ≡ Tight → ((is_wordy kind && wordy) ≡ false) × (begins_equal kind ≡ false)

-- each token may follow the one before it, the first one a word or none
abbrev pub AreLoose : Bool → List Piece → Type 0
AreLoose wordy [] = Unit {0}
AreLoose wordy (p ∷ ps) = MayFollow wordy p.gap p.kind × AreLoose (is_wordy p.kind) ps

-- whether the last token is a word
abbrev pub ends_wordy : Bool → List Piece → Bool
ends_wordy wordy [] = wordy
ends_wordy wordy (p ∷ ps) = ends_wordy (is_wordy p.kind) ps

put_loose : (wordy : Bool) (ps : Pieces) (gap : Gap) (kind : TokenKind) → AreLoose wordy ps → MayFollow (ends_wordy wordy ps) gap kind → AreLoose wordy (put gap kind ps)
put_loose wordy [] gap kind h may = (may, tt)
put_loose wordy (p ∷ ps) gap kind h may = (h.0, put_loose (is_wordy p.kind) ps gap kind h.1 may)

ends_wordy-put : (wordy : Bool) (ps : Pieces) (gap : Gap) (kind : TokenKind) → ends_wordy wordy (put gap kind ps) ≡ is_wordy kind
ends_wordy-put wordy [] gap kind = refl
ends_wordy-put wordy (p ∷ ps) gap kind = ends_wordy-put (is_wordy p.kind) ps gap kind

pub record Loose (ps : Pieces) : Type 0 where
  pub each : AreLoose false ps

-- a word may follow behind this gap
record Ready (gap : Gap) (ps : Pieces) : Type 0 where
  pub loose : Loose ps
  pub follows : gap ≡ Tight → ends_wordy false ps ≡ false

-- what is added by a function of this kind leaves the pieces loose
abbrev Keeps : {A : Type 0} → (Gap → A → Pieces → Pieces) → Type 0
Keeps {A} add = (gap : Gap) (x : A) (ps : Pieces) → Ready gap ps → Loose (add gap x ps)

spaced : (ps : Pieces) → Loose ps → Ready Space ps
spaced ps h = record { loose = h; follows = λ e. absurd (cc) }

lined : (ps : Pieces) → Loose ps → Ready Line ps
lined ps h = record { loose = h; follows = λ e. absurd (cc) }

-- behind a sign or a string anything may follow
sign_put : (gap : Gap) (s : Sign) (ps : Pieces) → Loose ps → (gap ≡ Tight → begins_equal (kinds.Sign s) ≡ false) → (next : Gap) → Ready next (put_sign gap s ps)
sign_put gap s ps h no_equal next = record { loose = record { each = put_loose false ps gap (kinds.Sign s) h.each (λ e. (refl, no_equal e)) }; follows = λ _. ends_wordy-put false ps gap (kinds.Sign s) }

text_put : (gap : Gap) (bytes : List ℕ) (ps : Pieces) → Loose ps → (next : Gap) → Ready next (put gap (kinds.Text bytes) ps)
text_put gap bytes ps h next = record { loose = record { each = put_loose false ps gap (kinds.Text bytes) h.each (λ e. (refl, refl)) }; follows = λ _. ends_wordy-put false ps gap (kinds.Text bytes) }

-- a word, number or literal behind what it may follow
word_put : (gap : Gap) (bytes : List ℕ) (ps : Pieces) → Ready gap ps → Loose (put_word gap bytes ps)
word_put gap bytes ps h = record { each = put_loose false ps gap (kinds.Word bytes) h.loose.each (λ e. (h.follows e, refl)) }

number_put : (gap : Gap) (n : ℕ) (ps : Pieces) → Ready gap ps → Loose (put_number gap n ps)
number_put gap n ps h = record { each = put_loose false ps gap (kinds.Number n) h.loose.each (λ e. (h.follows e, refl)) }

literal_put : (gap : Gap) (width value : ℕ) (ps : Pieces) → Ready gap ps → Loose (put gap (kinds.Literal width value) ps)
literal_put gap width value ps h = record { each = put_loose false ps gap (kinds.Literal width value) h.loose.each (λ e. (h.follows e, refl)) }

-- `=` behind a space
equal_put : (ps : Pieces) → Loose ps → Ready Space (put_sign Space signs.Equal ps)
equal_put ps h = sign_put Space signs.Equal ps h (λ e. absurd (cc)) Space

-- lists
module _ {A : Type 0} (add : Gap → A → Pieces → Pieces) (each : Keeps add) where
  more_loose : (xs : List A) (ps : Pieces) → Loose ps → Loose (more_of add xs ps)
  more_loose [] ps h = h
  more_loose (x ∷ xs) ps h = more_loose xs _ (each Space x _ (sign_put Tight signs.Comma ps h (λ _. refl) Space))

  commas_loose : (xs : List A) (ps : Pieces) → Ready Tight ps → Loose (with_commas add xs ps)
  commas_loose [] ps h = h.loose
  commas_loose (x ∷ xs) ps h = more_loose xs _ (each Tight x ps h)

  lines_loose : (xs : List A) (ps : Pieces) → Loose ps → Loose (add_lines add xs ps)
  lines_loose [] ps h = h
  lines_loose (x ∷ xs) ps h = lines_loose xs _ (each Line x ps (lined ps h))

  from_loose : (gap : Gap) (xs : List A) (ps : Pieces) → Ready gap ps → Loose (add_from add gap xs ps)
  from_loose gap [] ps h = h.loose
  from_loose gap (x ∷ xs) ps h = from_loose Line xs _ (lined _ (each gap x ps h))

  section_loose : (bytes : List ℕ) (xs : List A) (ps : Pieces) → Loose ps → Loose (add_section add bytes xs ps)
  section_loose bytes xs ps h = (sign_put Line signs.CloseBrace _ (lines_loose xs _ (sign_put Space signs.OpenBrace _ (word_put Line bytes ps (lined ps h)) (λ _. refl) Line).loose) (λ _. refl) Line).loose

-- attributes, marks and lengths
attribute_number_loose : (n : Option ℕ) (ps : Pieces) → Loose ps → Loose (add_attribute_number n ps)
attribute_number_loose None ps h = h
attribute_number_loose (Some n) ps h = (sign_put Tight signs.CloseParen _ (number_put Tight n _ (sign_put Tight signs.OpenParen ps h (λ _. refl) Tight)) (λ _. refl) Tight).loose

attribute_loose : (gap : Gap) (a : Attribute) (ps : Pieces) → Loose ps → Loose (add_attribute gap a ps)
attribute_loose gap a ps h = attribute_number_loose a.number _ (word_put Tight a.name _ (sign_put gap signs.At ps h (λ _. refl) Tight))

attributes_loose : (gap : Gap) (attrs : List Attribute) (ps : Pieces) → Loose ps → Loose (add_attributes gap attrs ps)
attributes_loose gap [] ps h = h
attributes_loose gap (a ∷ attrs) ps h = attributes_loose Space attrs _ (attribute_loose gap a ps h)

behind_ready : (gap : Gap) (attrs : List Attribute) (ps : Pieces) → Ready gap ps → Ready (behind_attributes gap attrs) (add_attributes gap attrs ps)
behind_ready gap [] ps h = h
behind_ready gap (a ∷ attrs) ps h = spaced _ (attributes_loose gap (a ∷ attrs) ps h.loose)

mark_loose : Keeps add_mark
mark_loose gap m ps h = number_put Space m.number _ (equal_put _ (text_put gap m.name ps h.loose Space).loose)

marks_loose : (ms : List Mark) (ps : Pieces) → Loose ps → Loose (add_marks ms ps)
marks_loose [] ps h = h
marks_loose (m ∷ ms) ps h = (sign_put Tight signs.Greater _ (more_loose add_mark mark_loose ms _ (mark_loose Tight m _ (sign_put Tight signs.Less ps h (λ _. refl) Tight))) (λ _. refl) Tight).loose

length_loose : (n : Option ℕ) (ps : Pieces) → Loose ps → Loose (add_length n ps)
length_loose None ps h = h
length_loose (Some n) ps h = (sign_put Tight signs.Greater _ (number_put Tight n _ (sign_put Tight signs.Less ps h (λ _. refl) Tight)) (λ _. refl) Tight).loose

-- operands and binds
form_loose : (gap : Gap) (f : OperandForm) (ps : Pieces) → Ready gap ps → Loose (add_form gap f ps)
form_loose gap (operands.Own port) ps h = word_put gap port ps h
form_loose gap (operands.Port cell port) ps h = word_put Tight port _ (sign_put Tight signs.Dot _ (word_put gap cell ps h) (λ _. refl) Tight)
form_loose gap (operands.Hole group hole) ps h = (sign_put Tight signs.CloseBracket _ (word_put Tight hole _ (sign_put Tight signs.OpenBracket _ (word_put gap group ps h) (λ _. refl) Tight)) (λ _. refl) Tight).loose
form_loose gap (operands.Literal width value) ps h = literal_put gap width value ps h

operand_loose : (gap : Gap) (o : OperandItem) (ps : Pieces) → Ready gap ps → Loose (add_operand gap o ps)
operand_loose gap o ps h = form_loose gap o.form ps h

bind_loose : Keeps add_bind
bind_loose gap b ps h = operand_loose Space b.value _ (equal_put _ (word_put gap b.name ps h))

binds_loose : (bs : List BindItem) (ps : Pieces) → Loose ps → Loose (add_binds bs ps)
binds_loose bs ps h = (sign_put Tight signs.CloseParen _ (commas_loose add_bind bind_loose bs _ (sign_put Tight signs.OpenParen ps h (λ _. refl) Tight)) (λ _. refl) Tight).loose

-- guards
wrapped_loose : (t : Bool) (inside : Gap → Pieces → Pieces) → ((gap : Gap) (ps : Pieces) → Ready gap ps → Loose (inside gap ps)) → (gap : Gap) (ps : Pieces) → Ready gap ps → Loose (wrapped t inside gap ps)
wrapped_loose true inside each gap ps h = (sign_put Tight signs.CloseParen _ (each Tight _ (sign_put gap signs.OpenParen ps h.loose (λ _. refl) Tight)) (λ _. refl) Tight).loose
wrapped_loose false inside each gap ps h = each gap ps h

between_ready : (t : Bool) (s : Sign) (gap : Gap) (ps : Pieces) → Ready gap ps → Ready gap (put_between t s ps)
between_ready true s gap ps h = sign_put Space s ps h.loose (λ e. absurd (cc)) gap
between_ready false s gap ps h = h

during_loose : (gap : Gap) (from to : ℕ) (ps : Pieces) → Loose ps → Loose (add_during gap from to ps)
during_loose gap from to ps h =
    (sign_put Tight signs.CloseBracket _ (number_put Tight to _ (sign_put Tight signs.Colon _ (number_put Tight from _ (sign_put Tight signs.OpenBracket _ (sign_put gap signs.Percent ps h (λ _. refl) Tight).loose (λ _. refl) Tight)) (λ _. refl) Tight)) (λ _. refl) Tight).loose

mutual
  inside_loose : (g : PlainGuard) (gap : Gap) (ps : Pieces) → Ready gap ps → Loose (add_inside g gap ps)
  inside_loose (guards.Or gs) gap ps h = parts_loose gs OrPart signs.Or false gap ps h
  inside_loose (guards.And gs) gap ps h = parts_loose gs AndPart signs.And false gap ps h
  inside_loose (guards.Compare c left right) gap ps h = operand_loose Space right _ (sign_put Space (comparison_sign c) _ (operand_loose gap left ps h) (λ e. absurd (cc)) Space)
  inside_loose (guards.Not g) gap ps h = wrapped_loose (needs_parens NotPart g) (add_inside g) (inside_loose g) Tight _ (sign_put gap signs.Not ps h.loose (λ _. refl) Tight)
  inside_loose (guards.Operand o) gap ps h = operand_loose gap o ps h
  inside_loose (guards.At n) gap ps h = number_put Tight n _ (sign_put gap signs.Percent ps h.loose (λ _. refl) Tight)
  inside_loose (guards.During from to) gap ps h = during_loose gap from to ps h.loose

  parts_loose : (gs : PlainGuards) (binding : Binding) (between : Sign) (is_behind : Bool) (gap : Gap) (ps : Pieces) → Ready gap ps → Loose (add_parts binding between is_behind gs gap ps)
  parts_loose NoGuards binding between is_behind gap ps h = h.loose
  parts_loose (GuardThen g gs) binding between is_behind gap ps h =
      parts_loose gs binding between true Space _ (spaced _ (wrapped_loose (needs_parens binding g) (add_inside g) (inside_loose g) gap _ (between_ready is_behind between gap ps h)))

guard_loose : (binding : Binding) (g : PlainGuard) (gap : Gap) (ps : Pieces) → Ready gap ps → Loose (add_guard binding g gap ps)
guard_loose binding g gap ps h = wrapped_loose (needs_parens binding g) (add_inside g) (inside_loose g) gap ps h

-- control
comb_loose : (comb : Option (List ℕ)) (ps : Pieces) → Loose ps → Loose (add_comb comb ps)
comb_loose None ps h = h
comb_loose (Some comb) ps h = word_put Space comb _ (spaced _ (word_put Space (codes "with") ps (spaced ps h)))

static_loose : (gap : Gap) (length : Option ℕ) (bytes : List ℕ) (ps : Pieces) → Ready gap ps → Loose (add_static gap length bytes ps)
static_loose gap length bytes ps h = word_put Space bytes _ (spaced _ (length_loose length _ (word_put gap (codes "static") ps h)))

invoke_loose : (cell : List ℕ) (inputs outputs : List BindItem) (ps : Pieces) → Loose ps → Loose (add_invoke cell inputs outputs ps)
invoke_loose cell inputs outputs ps h = (sign_put Tight signs.Semicolon _ (binds_loose outputs _ (binds_loose inputs _ (word_put Space cell ps (spaced ps h)))) (λ _. refl) Tight).loose

tested_loose : (o : OperandItem) (ps : Pieces) → Loose ps → Loose (add_operand Space o ps)
tested_loose o ps h = operand_loose Space o ps (spaced ps h)

counted_loose : (n : ℕ) (ps : Pieces) → Loose ps → Loose (put_number Space n ps)
counted_loose n ps h = number_put Space n ps (spaced ps h)

mutual
  control_loose : (f : PlainForm) (gap : Gap) (ps : Pieces) → Ready gap ps → Loose (add_control gap f ps)
  control_loose (plain.Enable group ms) gap ps h = (sign_put (behind_marks ms) signs.Semicolon _ (marks_loose ms _ (word_put gap group ps h)) (λ _. refl) Tight).loose
  control_loose (plain.Seq ms block) gap ps h = block_loose block _ (marks_loose ms _ (word_put gap (codes "seq") ps h))
  control_loose (plain.Par ms block) gap ps h = block_loose block _ (marks_loose ms _ (word_put gap (codes "par") ps h))
  control_loose (plain.StaticSeq length ms block) gap ps h = block_loose block _ (marks_loose ms _ (static_loose gap length (codes "seq") ps h))
  control_loose (plain.StaticPar length ms block) gap ps h = block_loose block _ (marks_loose ms _ (static_loose gap length (codes "par") ps h))
  control_loose (plain.If test comb body otherwise) gap ps h = else_loose otherwise _ (block_loose body _ (comb_loose comb _ (tested_loose test _ (word_put gap (codes "if") ps h))))
  control_loose (plain.StaticIf length test body otherwise) gap ps h = else_loose otherwise _ (block_loose body _ (tested_loose test _ (static_loose gap length (codes "if") ps h)))
  control_loose (plain.While test comb body) gap ps h = block_loose body _ (comb_loose comb _ (tested_loose test _ (word_put gap (codes "while") ps h)))
  control_loose (plain.Repeat count body) gap ps h = block_loose body _ (counted_loose count _ (word_put gap (codes "repeat") ps h))
  control_loose (plain.StaticRepeat length count body) gap ps h = block_loose body _ (counted_loose count _ (static_loose gap length (codes "repeat") ps h))
  control_loose (plain.Invoke cell inputs outputs) gap ps h = invoke_loose cell inputs outputs _ (word_put gap (codes "invoke") ps h)
  control_loose (plain.StaticInvoke length cell inputs outputs) gap ps h = invoke_loose cell inputs outputs _ (static_loose gap length (codes "invoke") ps h)

  else_loose : (e : PlainElse) (ps : Pieces) → Loose ps → Loose (add_else e ps)
  else_loose NoElse ps h = h
  else_loose (Else block) ps h = block_loose block _ (word_put Space (codes "else") ps (spaced ps h))

  statement_loose : (s : PlainStatement) (gap : Gap) (ps : Pieces) → Ready gap ps → Loose (add_statement gap s ps)
  statement_loose (Placed attrs form place) gap ps h = control_loose form (behind_attributes gap attrs) _ (behind_ready gap attrs ps h)

  statements_loose : (ss : PlainStatements) (ps : Pieces) → Loose ps → Loose (add_statements ss ps)
  statements_loose NoStatements ps h = h
  statements_loose (StatementThen s ss) ps h = statements_loose ss _ (statement_loose s Line ps (lined ps h))

  block_loose : (b : PlainBlock) (ps : Pieces) → Loose ps → Loose (add_block b ps)
  block_loose (Braces ss place) ps h = (sign_put Line signs.CloseBrace _ (statements_loose ss _ (sign_put Space signs.OpenBrace ps h (λ _. refl) Line).loose) (λ _. refl) Line).loose

-- wiring
condition_loose : (g : Option PlainGuard) (ps : Pieces) → Loose ps → Loose (add_condition g ps)
condition_loose None ps h = h
condition_loose (Some g) ps h = (sign_put Space signs.Question _ (guard_loose Whole g Space ps (spaced ps h)) (λ _. refl) Space).loose

assign_loose : Keeps add_assign
assign_loose gap a ps h =
    (sign_put Tight signs.Semicolon _ (tested_loose a.source _ (condition_loose a.guard _ (equal_put _ (operand_loose (behind_attributes gap a.attributes) a.target _ (behind_ready gap a.attributes ps h))).loose)) (λ _. refl) Tight).loose

group_word_loose : (gap : Gap) (k : GroupWord) (ps : Pieces) → Ready gap ps → Loose (add_group_word gap k ps)
group_word_loose gap group_words.Plain ps h = word_put gap (codes "group") ps h
group_word_loose gap group_words.Comb ps h = word_put Space (codes "group") _ (spaced _ (word_put gap (codes "comb") ps h))
group_word_loose gap (group_words.Timed n) ps h = static_loose gap (Some n) (codes "group") ps h

group_loose : Keeps add_group
group_loose gap g ps h =
    (sign_put Line signs.CloseBrace _ (lines_loose add_assign assign_loose g.assigns _ (sign_put Space signs.OpenBrace _ (marks_loose g.marks _ (word_put Space g.name _ (spaced _ (group_word_loose (behind_attributes gap g.attributes) g.kind _ (behind_ready gap g.attributes ps h))))) (λ _. refl) Line).loose) (λ _. refl) Line).loose

wire_loose : Keeps add_wire
wire_loose gap (wires.Group g) ps h = group_loose gap g ps h
wire_loose gap (wires.Assign a) ps h = assign_loose gap a ps h

-- components
port_loose : Keeps add_port
port_loose gap p ps h = counted_loose p.width _ (sign_put Tight signs.Colon _ (word_put (behind_attributes gap p.attributes) p.name _ (behind_ready gap p.attributes ps h)) (λ _. refl) Tight).loose

ports_loose : (gap : Gap) (xs : List PlainPort) (ps : Pieces) → Loose ps → Loose (add_ports gap xs ps)
ports_loose gap xs ps h = (sign_put Tight signs.CloseParen _ (commas_loose add_port port_loose xs _ (sign_put gap signs.OpenParen ps h (λ _. refl) Tight)) (λ _. refl) Tight).loose

outputs_loose : (xs : List PlainPort) (ps : Pieces) → Loose ps → Loose (add_outputs xs ps)
outputs_loose [] ps h = h
outputs_loose (x ∷ xs) ps h = ports_loose Space (x ∷ xs) _ (sign_put Space signs.Arrow ps h (λ _. refl) Space).loose

numbers_loose : (ns : List ℕ) (ps : Pieces) → Loose ps → Loose (add_numbers ns ps)
numbers_loose ns ps h = (sign_put Tight signs.CloseParen _ (commas_loose put_number number_put ns _ (sign_put Tight signs.OpenParen ps h (λ _. refl) Tight)) (λ _. refl) Tight).loose

cell_loose : Keeps add_cell
cell_loose gap c ps h =
    (sign_put Tight signs.Semicolon _ (numbers_loose c.numbers _ (word_put Space c.kind _ (equal_put _ (marks_loose c.marks _ (word_put (behind_attributes gap c.attributes) c.name _ (behind_ready gap c.attributes ps h)))))) (λ _. refl) Tight).loose

component_word_loose : (gap : Gap) (n : Option ℕ) (ps : Pieces) → Ready gap ps → Loose (add_component_word gap n ps)
component_word_loose gap None ps h = word_put gap (codes "component") ps h
component_word_loose gap (Some n) ps h = static_loose gap (Some n) (codes "component") ps h

control_part_loose : (b : Option PlainBlock) (ps : Pieces) → Loose ps → Loose (add_control_part b ps)
control_part_loose None ps h = h
control_part_loose (Some block) ps h = block_loose block _ (word_put Line (codes "control") ps (lined ps h))

signature_loose : (gap : Gap) (c : PlainComponent) (ps : Pieces) → Ready gap ps → Loose (add_signature gap c ps)
signature_loose gap c ps h = outputs_loose c.outputs _ (ports_loose (behind_marks c.marks) c.inputs _ (marks_loose c.marks _ (word_put Space c.name _ (spaced _ (component_word_loose (behind_attributes gap c.attributes) c.length _ (behind_ready gap c.attributes ps h))))))

component_loose : Keeps add_component
component_loose gap c ps h =
    (sign_put Line signs.CloseBrace _ (control_part_loose c.control _ (section_loose add_wire wire_loose (codes "wires") c.wires _ (section_loose add_cell cell_loose (codes "cells") c.cells _ (sign_put Space signs.OpenBrace _ (signature_loose gap c ps h) (λ _. refl) Line).loose))) (λ _. refl) Line).loose

import_loose : Keeps add_import
import_loose gap i ps h = (sign_put Tight signs.Semicolon _ (text_put Space i.path _ (word_put gap (codes "import") ps h) Tight).loose (λ _. refl) Tight).loose

imports_ready : (is : List ImportItem) → Ready (behind_imports is) (add_from add_import Tight is [])
imports_ready [] = record { loose = record { each = tt }; follows = λ _. refl }
imports_ready (i ∷ is) = lined _ (from_loose add_import import_loose Tight (i ∷ is) [] (record { loose = record { each = tt }; follows = λ _. refl }))

-- the pieces of a tree do not run into one another
pub pieces_of_loose : (t : PlainTree) → Loose (pieces_of t)
pieces_of_loose t = from_loose add_component component_loose (behind_imports t.imports) t.components _ (imports_ready t.imports)
