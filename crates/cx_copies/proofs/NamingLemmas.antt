-- Parts of a tree under names that stay.
use Rattle.std.proofs.Common.{◌≡◌, ◌∙◌, refl, ap, ℕ, List, [], ◌∷◌, Option, Some, None, map, option_map}
use Rattle.cx_ast.specs.declared.operands.OperandItem.{OperandItem}
use Rattle.cx_ast.specs.declared.operands.OperandForm.{OperandForm}
use Rattle.cx_ast.specs.declared.operands.OperandForm.TheVariants as operands
use Rattle.cx_ast.specs.declared.statements.BindItem.{BindItem}
use Rattle.cx_ast.specs.PlainGuards.{PlainGuard, guards_of, Or, And, Compare, Not, Operand, At, During, PlainGuards, NoGuards, GuardThen}
use Rattle.cx_ast.specs.PlainStatements.{PlainForm, statements_of, Enable, Seq, Par, StaticSeq, StaticPar, If, StaticIf, While, Repeat, StaticRepeat, Invoke, StaticInvoke, PlainElse, NoElse, Else, PlainStatement, Placed, PlainStatements, NoStatements, StatementThen, PlainBlock, Braces}
use Rattle.cx_ast.specs.PlainTree.{PlainAssign, PlainGroup, PlainWire, Group, Assign}
use Rattle.cx_copies.specs.Naming.{named_operand_form, named_operand, named_guard, named_guards, named_assign, named_group, named_wire, named_bind, named_form, named_else, named_statement, named_statements, named_block}
use Rattle.cx_text.proofs.ListLaws.{same_map}

abbrev itself : List ℕ → List ℕ
itself cell = cell

same_operand_form : (o : OperandForm) → named_operand_form itself o ≡ o
same_operand_form (operands.Own port) = refl
same_operand_form (operands.Port cell port) = refl
same_operand_form (operands.Hole group hole) = refl
same_operand_form (operands.Literal width value) = refl

same_operand : (o : OperandItem) → named_operand itself o ≡ o
same_operand o = ap (λ form. record { form = form; place = o.place }) (same_operand_form o.form)

mutual
  same_guard : (g : PlainGuard) → named_guard itself g ≡ g
  same_guard (Or gs) = ap Or (same_guards gs)
  same_guard (And gs) = ap And (same_guards gs)
  same_guard (Compare c left right) = ap (λ o. Compare c o (named_operand itself right)) (same_operand left) ∙ ap (Compare c left) (same_operand right)
  same_guard (Not g) = ap Not (same_guard g)
  same_guard (Operand o) = ap Operand (same_operand o)
  same_guard (At n) = refl
  same_guard (During from to) = refl

  same_guards : (gs : PlainGuards) → named_guards itself gs ≡ gs
  same_guards NoGuards = refl
  same_guards (GuardThen g gs) = ap (λ h. GuardThen h (named_guards itself gs)) (same_guard g) ∙ ap (GuardThen g) (same_guards gs)

same_guard_option : (g : Option PlainGuard) → option_map (named_guard itself) g ≡ g
same_guard_option None = refl
same_guard_option (Some g) = ap Some (same_guard g)

pub same_assign : (a : PlainAssign) → named_assign itself a ≡ a
same_assign a =
    ap (λ o. record { attributes = a.attributes; target = o; guard = option_map (named_guard itself) a.guard; source = named_operand itself a.source; place = a.place }) (same_operand a.target)
    ∙ ap (λ g. record { attributes = a.attributes; target = a.target; guard = g; source = named_operand itself a.source; place = a.place }) (same_guard_option a.guard)
    ∙ ap (λ o. record { attributes = a.attributes; target = a.target; guard = a.guard; source = o; place = a.place }) (same_operand a.source)

pub same_group : (g : PlainGroup) → named_group itself g ≡ g
same_group g =
    ap (λ assigns. record { attributes = g.attributes; kind = g.kind; name = g.name; marks = g.marks; assigns = assigns; place = g.place }) (same_map (named_assign itself) same_assign g.assigns)

same_wire : (w : PlainWire) → named_wire itself w ≡ w
same_wire (Group g) = ap Group (same_group g)
same_wire (Assign a) = ap Assign (same_assign a)

pub same_wires : (ws : List PlainWire) → map (named_wire itself) ws ≡ ws
same_wires ws = same_map (named_wire itself) same_wire ws

same_bind : (b : BindItem) → named_bind itself b ≡ b
same_bind b = ap (λ o. record { name = b.name; value = o; place = b.place }) (same_operand b.value)

same_binds : (bs : List BindItem) → map (named_bind itself) bs ≡ bs
same_binds bs = same_map (named_bind itself) same_bind bs

mutual
  pub same_form : (f : PlainForm) → named_form itself f ≡ f
  same_form (Enable group marks) = refl
  same_form (Seq marks block) = ap (Seq marks) (same_block block)
  same_form (Par marks block) = ap (Par marks) (same_block block)
  same_form (StaticSeq length marks block) = ap (StaticSeq length marks) (same_block block)
  same_form (StaticPar length marks block) = ap (StaticPar length marks) (same_block block)
  same_form (If test comb block otherwise) =
      ap (λ o. If o comb (named_block itself block) (named_else itself otherwise)) (same_operand test)
      ∙ ap (λ b. If test comb b (named_else itself otherwise)) (same_block block) ∙ ap (If test comb block) (same_else otherwise)
  same_form (StaticIf length test block otherwise) =
      ap (λ o. StaticIf length o (named_block itself block) (named_else itself otherwise)) (same_operand test)
      ∙ ap (λ b. StaticIf length test b (named_else itself otherwise)) (same_block block) ∙ ap (StaticIf length test block) (same_else otherwise)
  same_form (While test comb body) = ap (λ o. While o comb (named_block itself body)) (same_operand test) ∙ ap (While test comb) (same_block body)
  same_form (Repeat count body) = ap (Repeat count) (same_block body)
  same_form (StaticRepeat length count body) = ap (StaticRepeat length count) (same_block body)
  same_form (Invoke cell inputs outputs) = ap (λ bs. Invoke cell bs (map (named_bind itself) outputs)) (same_binds inputs) ∙ ap (Invoke cell inputs) (same_binds outputs)
  same_form (StaticInvoke length cell inputs outputs) =
      ap (λ bs. StaticInvoke length cell bs (map (named_bind itself) outputs)) (same_binds inputs) ∙ ap (StaticInvoke length cell inputs) (same_binds outputs)

  same_else : (e : PlainElse) → named_else itself e ≡ e
  same_else NoElse = refl
  same_else (Else block) = ap Else (same_block block)

  pub same_statement : (s : PlainStatement) → named_statement itself s ≡ s
  same_statement (Placed attributes form place) = ap (λ f. Placed attributes f place) (same_form form)

  same_statements : (ss : PlainStatements) → named_statements itself ss ≡ ss
  same_statements NoStatements = refl
  same_statements (StatementThen s ss) = ap (λ t. StatementThen t (named_statements itself ss)) (same_statement s) ∙ ap (StatementThen s) (same_statements ss)

  pub same_block : (b : PlainBlock) → named_block itself b ≡ b
  same_block (Braces statements place) = ap (λ ss. Braces ss place) (same_statements statements)

-- lists of guards and of statements
pub guards_named : (name : List ℕ → List ℕ) (gs : List PlainGuard) → named_guards name (guards_of gs) ≡ guards_of (map (named_guard name) gs)
guards_named name [] = refl
guards_named name (g ∷ gs) = ap (GuardThen (named_guard name g)) (guards_named name gs)

pub statements_named : (name : List ℕ → List ℕ) (ss : List PlainStatement) → named_statements name (statements_of ss) ≡ statements_of (map (named_statement name) ss)
statements_named name [] = refl
statements_named name (s ∷ ss) = ap (StatementThen (named_statement name s)) (statements_named name ss)
