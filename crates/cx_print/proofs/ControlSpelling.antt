-- Control: what each statement and block adds is read by its production as an equal part apart from places.
use Rattle.std.proofs.Common.{◌≡◌, ℕ, zero, suc, true, List, [], ◌∷◌, Option, Some, None, codes, refl, ap, map, arith}
use Rattle.std.specs.List.{AllByRecursion}
use Rattle.cx_text.specs.declared.places.Place.{Place}
use Rattle.cx_ast.specs.declared.signs.Sign.TheVariants as signs
use Rattle.cx_ast.specs.declared.components.Attribute.{Attribute}
use Rattle.cx_ast.specs.declared.components.Mark.{Mark}
use Rattle.cx_ast.specs.declared.operands.OperandItem.{OperandItem}
use Rattle.cx_ast.specs.declared.statements.BindItem.{BindItem}
use Rattle.cx_ast.specs.PlainStatements.{PlainForm, PlainElse, NoElse, Else, PlainStatement, Placed, PlainStatements, NoStatements, StatementThen, PlainBlock, statements_of, else_of}
use Rattle.cx_ast.specs.PlainStatements as plain
use Rattle.cx_grammar.specs.declared.terminals.Terminal.{Terminal}
use Rattle.cx_grammar.specs.declared.terminals.Terminal.TheVariants as t
use Rattle.cx_grammar.specs.Terminals.{is_in, word_terminal}
use Rattle.cx_grammar.specs.Grammar.{Grammar, Empty, Pair, Choice, Several, Deeper}
use Rattle.cx_grammar.specs.Grammar as grammars
use Rattle.cx_grammar.specs.Calyx as calyx
use Rattle.cx_print.specs.declared.pieces.Gap.{Gap}
use Rattle.cx_print.specs.declared.pieces.Gap.TheVariants.{Tight, Space, Line}
use Rattle.cx_print.specs.Layout.{IsWritableWord}
use Rattle.cx_print.specs.Pieces.{Pieces, put_word, put_number, add_marks, behind_marks, add_comb, add_length, add_invoke, behind_attributes, add_control, add_else, add_statement, add_statements, add_block}
use Rattle.cx_text.specs.Places.{start}
use Rattle.cx_print.specs.Places.{bare_bind, bare_form, bare_else, bare_statement, bare_statements, bare_block}
use Rattle.cx_print.specs.Printable.{IsName, IsNumber, IfThere, IsAttribute, IsMark, IsOperand, IsBind, IsControl, IsElse, IsStatement, AreStatements, IsBlock}
use Rattle.cx_print.proofs.Adding.{Adds, AddsMany, adds_nothing, adds_pair, adds_left, adds_right, adds_deeper, many_none, many_more, adds_several}
use Rattle.cx_print.proofs.HeaderSpelling.{name_added, number_added, sign_added, keyword_added, before_added, mapped_added, marks_added, optional_length_added, operand_added, binds_added, attributes_added}

-- equal apart from places
abbrev pub LikeBlock : PlainBlock → PlainBlock → Type 0
LikeBlock b c = bare_block c ≡ bare_block b

abbrev LikeForm : PlainForm → PlainForm × Place → Type 0
LikeForm f x = bare_form x.0 ≡ bare_form f

abbrev LikeStatic : PlainForm → Option ℕ → (Option ℕ → PlainForm) → Type 0
LikeStatic f length k = (m : Option ℕ) → m ≡ length → bare_form (k m) ≡ bare_form f

abbrev LikeStatements : PlainStatements → List PlainStatement → Type 0
LikeStatements ss xs = bare_statements (statements_of xs) ≡ bare_statements ss

-- a block, and one behind `else` or none, are read
abbrev Block : ℕ → PlainBlock → Type 0
Block n b = Adds n calyx.block (LikeBlock b) (add_block b)

abbrev Otherwise : ℕ → PlainElse → Type 0
Otherwise n o = Adds n calyx.otherwise (λ x. bare_else (else_of x) ≡ bare_else o) (add_else o)

module _ {n : ℕ} where
  -- behind a reserved word
  pub word_behind_added : {A : Type 0} {g : Grammar A} {P : A → Type 0} {add : Pieces → Pieces} (gap : Gap) (bytes : List ℕ) (terminal : Terminal) → IsWritableWord bytes → is_in (word_terminal bytes) (terminal ∷ []) ≡ true
      → Adds n g P add → Adds n (calyx.behind terminal g) P (λ before. add (put_word gap bytes before))
  word_behind_added {P = P} gap bytes terminal w h a = adds_pair (keyword_added gap bytes terminal w h) a P (λ x y p q. q)

  comb_added : (c : Option (List ℕ)) → IfThere IsName c → Adds n calyx.comb (λ x. x ≡ c) (add_comb c)
  unfolding calyx.comb
  comb_added None h = adds_right _ (adds_nothing None _ refl)
  comb_added (Some c) h =
      adds_left (Empty None) (mapped_added (λ x. Some x) (word_behind_added Space (codes "with") t.With (refl, refl, omega arith) refl (mapped_added calyx.text_in (name_added Space c h) (λ x. x ≡ c) (λ x p. p))) _ (λ x p. ap (λ y. Some y) p))

  enable_added : (gap : Gap) (group : List ℕ) (ms : List Mark) → IsName group → AllByRecursion IsMark ms → Adds n calyx.form (LikeForm (plain.Enable group ms)) (add_control gap (plain.Enable group ms))
  unfolding calyx.form calyx.enable
  enable_added gap group ms h k = adds_left _ (adds_pair (name_added gap group h) (before_added (marks_added ms k) (behind_marks ms) signs.Semicolon t.Semicolon refl) _ (λ x y p q. cc))

  called_added : (cell : List ℕ) (inputs outputs : List BindItem) → IsName cell → AllByRecursion IsBind inputs → AllByRecursion IsBind outputs
      → Adds n calyx.invoke_rest (λ r. (r.0.0 ≡ cell) × (map bare_bind r.1.0 ≡ map bare_bind inputs) × (map bare_bind r.1.1 ≡ map bare_bind outputs)) (add_invoke cell inputs outputs)
  unfolding calyx.invoke_rest
  called_added cell inputs outputs h k l =
      adds_pair (name_added Space cell h)
      (adds_pair (binds_added inputs k) (before_added (binds_added outputs l) Tight signs.Semicolon t.Semicolon refl) (λ r. (map bare_bind r.0 ≡ map bare_bind inputs) × (map bare_bind r.1 ≡ map bare_bind outputs)) (λ x y p q. (p, q)))
      _ (λ x y p q. (p, q.0, q.1))

  invoke_added : (gap : Gap) (cell : List ℕ) (inputs outputs : List BindItem) → IsName cell → AllByRecursion IsBind inputs → AllByRecursion IsBind outputs
      → Adds n calyx.form (LikeForm (plain.Invoke cell inputs outputs)) (add_control gap (plain.Invoke cell inputs outputs))
  unfolding calyx.form calyx.invoke
  invoke_added gap cell inputs outputs h k l =
      adds_right _ (adds_right _ (adds_right _ (adds_right _ (adds_right _ (adds_right _ (adds_left _
      (adds_pair (keyword_added gap (codes "invoke") t.Invoke (refl, refl, omega arith) refl) (called_added cell inputs outputs h k l) _ (λ x y p q. cc))))))))

  -- behind `static` and a length
  static_added : (gap : Gap) (length : Option ℕ) (f : PlainForm) (add : Pieces → Pieces) → IfThere IsNumber length → Adds n calyx.static_rest (LikeStatic f length) add → Adds n calyx.form (LikeForm f) (λ before. add (add_length length (put_word gap (codes "static") before)))
  unfolding calyx.form calyx.static_statement calyx.static_form
  static_added gap length f add h a =
      adds_right _ (adds_right _ (adds_right _ (adds_right _ (adds_right _ (adds_right _ (adds_right _
      (adds_pair (keyword_added gap (codes "static") t.Static (refl, refl, omega arith) refl) (adds_pair (optional_length_added length h) a (λ x. bare_form x ≡ bare_form f) (λ m k p q. q m p)) _ (λ x y p q. q))))))))

  -- statements over blocks that are read
  no_else_added : Otherwise n NoElse
  unfolding calyx.otherwise
  no_else_added = adds_right _ (adds_nothing None _ refl)

  else_added : (b : PlainBlock) → Block n b → Otherwise n (Else b)
  unfolding calyx.otherwise
  else_added b a = adds_left (Empty None) (mapped_added (λ x. Some x) (word_behind_added Space (codes "else") t.Else (refl, refl, omega arith) refl a) _ (λ x p. ap (λ y. Else y) p))

  marked_added : (ms : List Mark) (b : PlainBlock) → AllByRecursion IsMark ms → Block n b → Adds n calyx.marked_block (λ r. (r.0 ≡ ms) × (bare_block r.1 ≡ bare_block b)) (λ before. add_block b (add_marks ms before))
  unfolding calyx.marked_block
  marked_added ms b h a = adds_pair (marks_added ms h) a _ (λ x y p q. (p, q))

  counted_added : (count : ℕ) (b : PlainBlock) → IsNumber count → Block n b → Adds n calyx.repeat_rest (λ r. (r.0 ≡ count) × (bare_block r.1 ≡ bare_block b)) (λ before. add_block b (put_number Space count before))
  unfolding calyx.repeat_rest
  counted_added count b h a = adds_pair (number_added Space count h) a _ (λ x y p q. (p, q))

  seq_added : (gap : Gap) (ms : List Mark) (b : PlainBlock) → AllByRecursion IsMark ms → Block n b → Adds n calyx.form (LikeForm (plain.Seq ms b)) (add_control gap (plain.Seq ms b))
  unfolding calyx.form calyx.seq
  seq_added gap ms b h a = adds_right _ (adds_left _ (adds_pair (keyword_added gap (codes "seq") t.Seq (refl, refl, omega arith) refl) (marked_added ms b h a) _ (λ x y p q. cc)))

  par_added : (gap : Gap) (ms : List Mark) (b : PlainBlock) → AllByRecursion IsMark ms → Block n b → Adds n calyx.form (LikeForm (plain.Par ms b)) (add_control gap (plain.Par ms b))
  unfolding calyx.form calyx.par
  par_added gap ms b h a = adds_right _ (adds_right _ (adds_left _ (adds_pair (keyword_added gap (codes "par") t.Par (refl, refl, omega arith) refl) (marked_added ms b h a) _ (λ x y p q. cc))))

  if_added : (gap : Gap) (test : OperandItem) (comb : Option (List ℕ)) (b : PlainBlock) (o : PlainElse) → IsOperand test → IfThere IsName comb → Block n b → Otherwise n o
      → Adds n calyx.form (LikeForm (plain.If test comb b o)) (add_control gap (plain.If test comb b o))
  unfolding calyx.form calyx.if_form calyx.if_rest
  if_added gap test comb b o h k a e =
      adds_right _ (adds_right _ (adds_right _ (adds_left _
      (adds_pair (keyword_added gap (codes "if") t.If (refl, refl, omega arith) refl)
      (adds_pair (operand_added Space test h)
      (adds_pair (comb_added comb k) (adds_pair a e (λ r. (bare_block r.0 ≡ bare_block b) × (bare_else (else_of r.1) ≡ bare_else o)) (λ x y p q. (p, q)))
      (λ r. (r.0 ≡ comb) × (bare_block r.1.0 ≡ bare_block b) × (bare_else (else_of r.1.1) ≡ bare_else o)) (λ x y p q. (p, q.0, q.1)))
      (λ f. bare_form f ≡ bare_form (plain.If test comb b o)) (λ x y p q. cc))
      _ (λ x y p q. q)))))

  while_added : (gap : Gap) (test : OperandItem) (comb : Option (List ℕ)) (b : PlainBlock) → IsOperand test → IfThere IsName comb → Block n b → Adds n calyx.form (LikeForm (plain.While test comb b)) (add_control gap (plain.While test comb b))
  unfolding calyx.form calyx.while_form calyx.while_rest
  while_added gap test comb b h k a =
      adds_right _ (adds_right _ (adds_right _ (adds_right _ (adds_left _
      (adds_pair (keyword_added gap (codes "while") t.While (refl, refl, omega arith) refl)
      (adds_pair (operand_added Space test h) (adds_pair (comb_added comb k) a (λ r. (r.0 ≡ comb) × (bare_block r.1 ≡ bare_block b)) (λ x y p q. (p, q)))
      (λ f. bare_form f ≡ bare_form (plain.While test comb b)) (λ x y p q. cc))
      _ (λ x y p q. q))))))

  repeat_added : (gap : Gap) (count : ℕ) (b : PlainBlock) → IsNumber count → Block n b → Adds n calyx.form (LikeForm (plain.Repeat count b)) (add_control gap (plain.Repeat count b))
  unfolding calyx.form calyx.repeat
  repeat_added gap count b h a =
      adds_right _ (adds_right _ (adds_right _ (adds_right _ (adds_right _ (adds_left _
      (adds_pair (keyword_added gap (codes "repeat") t.Repeat (refl, refl, omega arith) refl) (counted_added count b h a) _ (λ x y p q. cc)))))))

  static_seq_added : (gap : Gap) (length : Option ℕ) (ms : List Mark) (b : PlainBlock) → IfThere IsNumber length → AllByRecursion IsMark ms → Block n b
      → Adds n calyx.form (LikeForm (plain.StaticSeq length ms b)) (add_control gap (plain.StaticSeq length ms b))
  unfolding calyx.static_rest
  static_seq_added gap length ms b l h a =
      static_added gap length (plain.StaticSeq length ms b) _ l
      (adds_left _ (word_behind_added Space (codes "seq") t.Seq (refl, refl, omega arith) refl (mapped_added calyx.static_seq_of (marked_added ms b h a) (LikeStatic (plain.StaticSeq length ms b) length) (λ r p. λ m e. cc))))

  static_par_added : (gap : Gap) (length : Option ℕ) (ms : List Mark) (b : PlainBlock) → IfThere IsNumber length → AllByRecursion IsMark ms → Block n b
      → Adds n calyx.form (LikeForm (plain.StaticPar length ms b)) (add_control gap (plain.StaticPar length ms b))
  unfolding calyx.static_rest
  static_par_added gap length ms b l h a =
      static_added gap length (plain.StaticPar length ms b) _ l
      (adds_right _ (adds_left _ (word_behind_added Space (codes "par") t.Par (refl, refl, omega arith) refl (mapped_added calyx.static_par_of (marked_added ms b h a) (LikeStatic (plain.StaticPar length ms b) length) (λ r p. λ m e. cc)))))

  static_if_added : (gap : Gap) (length : Option ℕ) (test : OperandItem) (b : PlainBlock) (o : PlainElse) → IfThere IsNumber length → IsOperand test → Block n b → Otherwise n o
      → Adds n calyx.form (LikeForm (plain.StaticIf length test b o)) (add_control gap (plain.StaticIf length test b o))
  unfolding calyx.static_rest calyx.static_if_rest
  static_if_added gap length test b o l h a e =
      static_added gap length (plain.StaticIf length test b o) _ l
      (adds_right _ (adds_right _ (adds_left _ (word_behind_added Space (codes "if") t.If (refl, refl, omega arith) refl
      (adds_pair (operand_added Space test h) (adds_pair a e (λ r. (bare_block r.0 ≡ bare_block b) × (bare_else (else_of r.1) ≡ bare_else o)) (λ x y p q. (p, q))) (LikeStatic (plain.StaticIf length test b o) length) (λ x y p q. λ m k. cc))))))

  static_repeat_added : (gap : Gap) (length : Option ℕ) (count : ℕ) (b : PlainBlock) → IfThere IsNumber length → IsNumber count → Block n b
      → Adds n calyx.form (LikeForm (plain.StaticRepeat length count b)) (add_control gap (plain.StaticRepeat length count b))
  unfolding calyx.static_rest
  static_repeat_added gap length count b l h a =
      static_added gap length (plain.StaticRepeat length count b) _ l
      (adds_right _ (adds_right _ (adds_right _ (adds_left _ (word_behind_added Space (codes "repeat") t.Repeat (refl, refl, omega arith) refl (mapped_added calyx.static_repeat_of (counted_added count b h a) (LikeStatic (plain.StaticRepeat length count b) length) (λ r p. λ m e. cc)))))))

  static_invoke_added : (gap : Gap) (length : Option ℕ) (cell : List ℕ) (inputs outputs : List BindItem) → IfThere IsNumber length → IsName cell → AllByRecursion IsBind inputs → AllByRecursion IsBind outputs
      → Adds n calyx.form (LikeForm (plain.StaticInvoke length cell inputs outputs)) (add_control gap (plain.StaticInvoke length cell inputs outputs))
  unfolding calyx.static_rest
  static_invoke_added gap length cell inputs outputs l h k o =
      static_added gap length (plain.StaticInvoke length cell inputs outputs) _ l
      (adds_right _ (adds_right _ (adds_right _ (adds_right _ (word_behind_added Space (codes "invoke") t.Invoke (refl, refl, omega arith) refl
      (mapped_added calyx.static_invoke_of (called_added cell inputs outputs h k o) (LikeStatic (plain.StaticInvoke length cell inputs outputs) length) (λ r p. λ m e. cc)))))))

-- a block over statements that are read
abbrev AreRead : PlainStatements → Type 0
AreRead ss = (n : ℕ) → AreStatements ss n → AddsMany n calyx.statement (LikeStatements ss) (add_statements ss)

statements_added : {n : ℕ} (ss : PlainStatements) → AddsMany n calyx.statement (LikeStatements ss) (add_statements ss) → Adds n calyx.statements (LikeStatements ss) (add_statements ss)
unfolding calyx.statements
statements_added ss each = adds_several (λ xs. xs) each _ (λ xs p. p)

braces_added : {n : ℕ} (ss : PlainStatements) (place : Place) → Adds n calyx.statements (LikeStatements ss) (add_statements ss) → Adds (suc n) calyx.block (LikeBlock (plain.Braces ss place)) (add_block (plain.Braces ss place))
unfolding calyx.block calyx.nest
braces_added ss place all = adds_deeper {m = grammars.Braces} (adds_pair (sign_added Space signs.OpenBrace t.OpenBrace refl) (before_added all Line signs.CloseBrace t.CloseBrace refl) _ (λ x y p q. ap (λ zs. plain.Braces zs start) q))

block_added_of : (ss : PlainStatements) (place : Place) → AreRead ss → (n : ℕ) → IsBlock (plain.Braces ss place) n → Adds n calyx.block (LikeBlock (plain.Braces ss place)) (add_block (plain.Braces ss place))
block_added_of ss place each zero h = absurd h
block_added_of ss place each (suc n) h = braces_added ss place (statements_added ss (each n h))

statement_added_of : {n : ℕ} (attrs : List Attribute) (f : PlainForm) (place : Place) → AllByRecursion IsAttribute attrs → Adds n calyx.form (LikeForm f) (add_control (behind_attributes Line attrs) f)
    → Adds n calyx.statement (λ x. bare_statement x ≡ bare_statement (Placed attrs f place)) (add_statement Line (Placed attrs f place))
unfolding calyx.statement
statement_added_of attrs f place h a = adds_pair (attributes_added Line attrs h) a _ (λ x y p q. cc)

mutual
  form_added : (f : PlainForm) (n : ℕ) (gap : Gap) → IsControl f n → Adds n calyx.form (LikeForm f) (add_control gap f)
  form_added (plain.Enable group ms) n gap h = enable_added gap group ms h.0 h.1
  form_added (plain.Seq ms block) n gap h = seq_added gap ms block h.0 (block_added block n h.1)
  form_added (plain.Par ms block) n gap h = par_added gap ms block h.0 (block_added block n h.1)
  form_added (plain.StaticSeq length ms block) n gap h = static_seq_added gap length ms block h.0 h.1 (block_added block n h.2)
  form_added (plain.StaticPar length ms block) n gap h = static_par_added gap length ms block h.0 h.1 (block_added block n h.2)
  form_added (plain.If test comb body otherwise) n gap h = if_added gap test comb body otherwise h.0 h.1 (block_added body n h.2) (otherwise_added otherwise n h.3)
  form_added (plain.StaticIf length test body otherwise) n gap h = static_if_added gap length test body otherwise h.0 h.1 (block_added body n h.2) (otherwise_added otherwise n h.3)
  form_added (plain.While test comb body) n gap h = while_added gap test comb body h.0 h.1 (block_added body n h.2)
  form_added (plain.Repeat count body) n gap h = repeat_added gap count body h.0 (block_added body n h.1)
  form_added (plain.StaticRepeat length count body) n gap h = static_repeat_added gap length count body h.0 h.1 (block_added body n h.2)
  form_added (plain.Invoke cell inputs outputs) n gap h = invoke_added gap cell inputs outputs h.0 h.1 h.2
  form_added (plain.StaticInvoke length cell inputs outputs) n gap h = static_invoke_added gap length cell inputs outputs h.0 h.1 h.2 h.3

  otherwise_added : (o : PlainElse) (n : ℕ) → IsElse o n → Adds n calyx.otherwise (λ x. bare_else (else_of x) ≡ bare_else o) (add_else o)
  otherwise_added NoElse n h = no_else_added
  otherwise_added (Else block) n h = else_added block (block_added block n h)

  statement_added : (s : PlainStatement) (n : ℕ) → IsStatement s n → Adds n calyx.statement (λ x. bare_statement x ≡ bare_statement s) (add_statement Line s)
  statement_added (Placed attrs f place) n h = statement_added_of attrs f place h.0 (form_added f n (behind_attributes Line attrs) h.1)

  statements_many : (ss : PlainStatements) (n : ℕ) → AreStatements ss n → AddsMany n calyx.statement (LikeStatements ss) (add_statements ss)
  statements_many NoStatements n h = many_none _ _ refl
  statements_many (StatementThen s ss) n h = many_more (statement_added s n h.0) (statements_many ss n h.1) _ (λ x xs p q. cc)

  pub block_added : (b : PlainBlock) (n : ℕ) → IsBlock b n → Adds n calyx.block (LikeBlock b) (add_block b)
  block_added (plain.Braces ss place) n h = block_added_of ss place (statements_many ss) n h
