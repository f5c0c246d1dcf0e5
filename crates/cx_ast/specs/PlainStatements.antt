-- Control as plain data: what a `Block` stands for, without where it lies in memory. Names, operands, attributes, marks
-- and binds are plain data already.
use Rattle.std.specs.Prelude.{ℕ, List, [], ◌∷◌, Option, Some, None, map}
use Rattle.cx_text.specs.declared.places.Place.{Place}
use Rattle.cx_ast.specs.declared.components.Attribute.{Attribute}
use Rattle.cx_ast.specs.declared.components.Mark.{Mark}
use Rattle.cx_ast.specs.declared.operands.OperandItem.{OperandItem}
use Rattle.cx_ast.specs.declared.statements.BindItem.{BindItem}
use Rattle.cx_ast.specs.declared.statements.Block.{Block, Block-F, fold-Block}
use Rattle.cx_ast.specs.declared.statements.StatementForm.{StatementForm, StatementForm-F, fold-StatementForm}
use Rattle.cx_ast.specs.declared.statements.StatementForm.TheOpen as opened
use Rattle.cx_ast.specs.declared.statements.StatementItem.{StatementItem, StatementItem-F, fold-StatementItem}

mutual
  pub data PlainForm : Type 0 where
    Enable : (group : List ℕ) (marks : List Mark) → PlainForm
    Seq : (marks : List Mark) (block : PlainBlock) → PlainForm
    Par : (marks : List Mark) (block : PlainBlock) → PlainForm
    StaticSeq : (length : Option ℕ) (marks : List Mark) (block : PlainBlock) → PlainForm
    StaticPar : (length : Option ℕ) (marks : List Mark) (block : PlainBlock) → PlainForm
    If : (test : OperandItem) (comb : Option (List ℕ)) (then : PlainBlock) (otherwise : PlainElse) → PlainForm
    StaticIf : (length : Option ℕ) (test : OperandItem) (then : PlainBlock) (otherwise : PlainElse) → PlainForm
    While : (test : OperandItem) (comb : Option (List ℕ)) (body : PlainBlock) → PlainForm
    Repeat : (count : ℕ) (body : PlainBlock) → PlainForm
    StaticRepeat : (length : Option ℕ) (count : ℕ) (body : PlainBlock) → PlainForm
    Invoke : (cell : List ℕ) (inputs outputs : List BindItem) → PlainForm
    StaticInvoke : (length : Option ℕ) (cell : List ℕ) (inputs outputs : List BindItem) → PlainForm

  -- the block behind `else`, where there is one
  pub data PlainElse : Type 0 where
    NoElse : PlainElse
    Else : (block : PlainBlock) → PlainElse

  -- a form with its attributes and its place
  pub data PlainStatement : Type 0 where
    Placed : (attributes : List Attribute) (form : PlainForm) (place : Place) → PlainStatement

  pub data PlainStatements : Type 0 where
    NoStatements : PlainStatements
    StatementThen : (s : PlainStatement) (ss : PlainStatements) → PlainStatements

  -- statements between braces, with the place of the `{`
  pub data PlainBlock : Type 0 where
    Braces : (statements : PlainStatements) (place : Place) → PlainBlock

abbrev pub statements_of : List PlainStatement → PlainStatements
statements_of [] = NoStatements
statements_of (s ∷ ss) = StatementThen s (statements_of ss)

abbrev pub else_of : Option PlainBlock → PlainElse
else_of None = NoElse
else_of (Some block) = Else block

abbrev pub form_step : StatementForm-F PlainForm PlainBlock PlainStatement → PlainForm
form_step (opened.Enable group marks) = Enable group marks.items
form_step (opened.Seq marks block) = Seq marks.items block
form_step (opened.Par marks block) = Par marks.items block
form_step (opened.StaticSeq length marks block) = StaticSeq length marks.items block
form_step (opened.StaticPar length marks block) = StaticPar length marks.items block
form_step (opened.If test comb then otherwise) = If test comb then (else_of otherwise)
form_step (opened.StaticIf length test then otherwise) = StaticIf length test then (else_of otherwise)
form_step (opened.While test comb body) = While test comb body
form_step (opened.Repeat count body) = Repeat count body
form_step (opened.StaticRepeat length count body) = StaticRepeat length count body
form_step (opened.Invoke cell inputs outputs) = Invoke cell inputs.items outputs.items
form_step (opened.StaticInvoke length cell inputs outputs) = StaticInvoke length cell inputs.items outputs.items

abbrev pub block_step : Block-F PlainForm PlainBlock PlainStatement → PlainBlock
block_step b = Braces (statements_of b.statements.items) b.place

abbrev pub statement_step : StatementItem-F PlainForm PlainBlock PlainStatement → PlainStatement
statement_step s = Placed s.attributes.items s.form s.place

abbrev pub plain_form : StatementForm → PlainForm
plain_form = fold-StatementForm PlainForm PlainBlock PlainStatement form_step block_step statement_step

abbrev pub plain_block : Block → PlainBlock
plain_block = fold-Block PlainForm PlainBlock PlainStatement form_step block_step statement_step

abbrev pub plain_statement : StatementItem → PlainStatement
plain_statement = fold-StatementItem PlainForm PlainBlock PlainStatement form_step block_step statement_step

abbrev pub plain_statements : List StatementItem → List PlainStatement
plain_statements ss = map plain_statement ss
