-- Facts of what `PlainStatements` defines, that several crates above take.
use Rattle.std.proofs.Common.{◌≡◌, ℕ, List, Option, Some, None, option_map, sym, ap, ◌∙◌}
use Rattle.cx_ast.specs.declared.operands.OperandItem.{OperandItem}
use Rattle.cx_ast.specs.declared.statements.Block.{Block}
use Rattle.cx_ast.specs.declared.statements.StatementForm as forms
use Rattle.cx_ast.specs.declared.statements.StatementForm.TheFolds.{fold-roll-StatementForm}
use Rattle.cx_ast.specs.declared.statements.StatementForm.TheVariants.{rolls-If, rolls-StaticIf}
use Rattle.cx_ast.specs.PlainStatements.{PlainForm, PlainBlock, PlainStatement, form_step, block_step, statement_step, plain_form, plain_block, else_of, If, StaticIf}

pub if_form : (test : OperandItem) (comb : Option (List ℕ)) (then : Block) (other : Option Block) → plain_form (forms.If test comb then other) ≡ If test comb (plain_block then) (else_of (option_map plain_block other))
if_form test comb then None = ap plain_form (sym (rolls-If test comb then None)) ∙ fold-roll-StatementForm PlainForm PlainBlock PlainStatement form_step block_step statement_step _
if_form test comb then (Some other) = ap plain_form (sym (rolls-If test comb then (Some other))) ∙ fold-roll-StatementForm PlainForm PlainBlock PlainStatement form_step block_step statement_step _

pub static_if_form : (length : Option ℕ) (test : OperandItem) (then : Block) (other : Option Block) → plain_form (forms.StaticIf length test then other) ≡ StaticIf length test (plain_block then) (else_of (option_map plain_block other))
static_if_form length test then None = ap plain_form (sym (rolls-StaticIf length test then None)) ∙ fold-roll-StatementForm PlainForm PlainBlock PlainStatement form_step block_step statement_step _
static_if_form length test then (Some other) = ap plain_form (sym (rolls-StaticIf length test then (Some other))) ∙ fold-roll-StatementForm PlainForm PlainBlock PlainStatement form_step block_step statement_step _
