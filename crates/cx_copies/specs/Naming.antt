-- Parts of a tree with other names of cells: wherever a cell is named, the name that a map gives; all else stays.
use Rattle.std.specs.Prelude.{ℕ, List, map, option_map}
use Rattle.cx_ast.specs.declared.operands.OperandItem.{OperandItem}
use Rattle.cx_ast.specs.declared.operands.OperandForm.{OperandForm}
use Rattle.cx_ast.specs.declared.operands.OperandForm.TheVariants as operands
use Rattle.cx_ast.specs.declared.statements.BindItem.{BindItem}
use Rattle.cx_ast.specs.PlainGuards.{PlainGuard, Or, And, Compare, Not, Operand, At, During, PlainGuards, NoGuards, GuardThen}
use Rattle.cx_ast.specs.PlainStatements.{PlainForm, Enable, Seq, Par, StaticSeq, StaticPar, If, StaticIf, While, Repeat, StaticRepeat, Invoke, StaticInvoke, PlainElse, NoElse, Else, PlainStatement, Placed, PlainStatements, NoStatements, StatementThen, PlainBlock, Braces}
use Rattle.cx_ast.specs.PlainTree.{PlainAssign, PlainGroup, PlainWire, Group, Assign}

module _ (name : List ℕ → List ℕ) where
  -- a port of a cell names it; a port of the component, a hole and a literal name none
  abbrev pub named_operand_form : OperandForm → OperandForm
  named_operand_form (operands.Own port) = operands.Own port
  named_operand_form (operands.Port cell port) = operands.Port (name cell) port
  named_operand_form (operands.Hole group hole) = operands.Hole group hole
  named_operand_form (operands.Literal width value) = operands.Literal width value

  abbrev pub named_operand : OperandItem → OperandItem
  named_operand o = record { form = named_operand_form o.form; place = o.place }

  abbrev mutual
    pub named_guard : PlainGuard → PlainGuard
    named_guard (Or gs) = Or (named_guards gs)
    named_guard (And gs) = And (named_guards gs)
    named_guard (Compare c left right) = Compare c (named_operand left) (named_operand right)
    named_guard (Not g) = Not (named_guard g)
    named_guard (Operand o) = Operand (named_operand o)
    named_guard (At n) = At n
    named_guard (During from to) = During from to

    pub named_guards : PlainGuards → PlainGuards
    named_guards NoGuards = NoGuards
    named_guards (GuardThen g gs) = GuardThen (named_guard g) (named_guards gs)

  abbrev pub named_assign : PlainAssign → PlainAssign
  named_assign a = record {
    attributes = a.attributes;
    target = named_operand a.target;
    guard = option_map named_guard a.guard;
    source = named_operand a.source;
    place = a.place;
  }

  abbrev pub named_group : PlainGroup → PlainGroup
  named_group g =
      record {
        attributes = g.attributes;
        kind = g.kind;
        name = g.name;
        marks = g.marks;
        assigns = map named_assign g.assigns;
        place = g.place;
      }

  abbrev pub named_wire : PlainWire → PlainWire
  named_wire (Group g) = Group (named_group g)
  named_wire (Assign a) = Assign (named_assign a)

  -- a bind names a port and binds an operand
  abbrev pub named_bind : BindItem → BindItem
  named_bind b = record { name = b.name; value = named_operand b.value; place = b.place }

  abbrev mutual
    pub named_form : PlainForm → PlainForm
    named_form (Enable group marks) = Enable group marks
    named_form (Seq marks block) = Seq marks (named_block block)
    named_form (Par marks block) = Par marks (named_block block)
    named_form (StaticSeq length marks block) = StaticSeq length marks (named_block block)
    named_form (StaticPar length marks block) = StaticPar length marks (named_block block)
    named_form (If test comb yes_block otherwise) =
        If (named_operand test) comb (named_block yes_block) (named_else otherwise)
    named_form (StaticIf length test yes_block otherwise) =
        StaticIf length (named_operand test) (named_block yes_block) (named_else otherwise)
    named_form (While test comb body) = While (named_operand test) comb (named_block body)
    named_form (Repeat count body) = Repeat count (named_block body)
    named_form (StaticRepeat length count body) = StaticRepeat length count (named_block body)
    named_form (Invoke cell inputs outputs) = Invoke (name cell) (map named_bind inputs) (map named_bind outputs)
    named_form (StaticInvoke length cell inputs outputs) =
        StaticInvoke length (name cell) (map named_bind inputs) (map named_bind outputs)

    pub named_else : PlainElse → PlainElse
    named_else NoElse = NoElse
    named_else (Else block) = Else (named_block block)

    pub named_statement : PlainStatement → PlainStatement
    named_statement (Placed attributes form place) = Placed attributes (named_form form) place

    pub named_statements : PlainStatements → PlainStatements
    named_statements NoStatements = NoStatements
    named_statements (StatementThen s ss) = StatementThen (named_statement s) (named_statements ss)

    pub named_block : PlainBlock → PlainBlock
    named_block (Braces statements place) = Braces (named_statements statements) place
