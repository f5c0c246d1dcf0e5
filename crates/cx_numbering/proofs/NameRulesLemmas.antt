-- Facts of what `NameRules` defines, that several crates above take.
use Rattle.std.proofs.Common.{◌≡◌, ℕ, List, ◌++◌, Option, Some, None, option_map, sym, ap, ◌∙◌, length}
use Rattle.cx_ast.specs.declared.operands.OperandItem.{OperandItem}
use Rattle.cx_ast.specs.declared.statements.Block.{Block}
use Rattle.cx_ast.specs.declared.statements.StatementForm.TheFolds.{fold-roll-StatementForm}
use Rattle.cx_ast.specs.declared.statements.StatementForm.TheVariants.{If, rolls-If, StaticIf, rolls-StaticIf}
use Rattle.cx_ast.specs.PlainStatements.{PlainForm, PlainBlock, PlainStatement, form_step, block_step, statement_step, plain_form, plain_block, else_of}
use Rattle.cx_numbering.specs.NameRules.{visit_parts, visit_block, visit_else}

-- the statements in an `if`
pub if_parts : (test : OperandItem) (comb : Option (List ℕ)) (first : Block) (other : Option Block)
    → visit_parts (plain_form (If test comb first other)) ≡ visit_block (plain_block first) ++ visit_else (else_of (option_map plain_block other))
if_parts test comb first None =
    ap (λ f. visit_parts (plain_form f)) (sym (rolls-If test comb first None)) ∙ ap visit_parts (fold-roll-StatementForm PlainForm PlainBlock PlainStatement form_step block_step statement_step _)
if_parts test comb first (Some other) =
    ap (λ f. visit_parts (plain_form f)) (sym (rolls-If test comb first (Some other))) ∙ ap visit_parts (fold-roll-StatementForm PlainForm PlainBlock PlainStatement form_step block_step statement_step _)

pub static_if_parts : (length : Option ℕ) (test : OperandItem) (first : Block) (other : Option Block)
    → visit_parts (plain_form (StaticIf length test first other)) ≡ visit_block (plain_block first) ++ visit_else (else_of (option_map plain_block other))
static_if_parts length test first None =
    ap (λ f. visit_parts (plain_form f)) (sym (rolls-StaticIf length test first None)) ∙ ap visit_parts (fold-roll-StatementForm PlainForm PlainBlock PlainStatement form_step block_step statement_step _)
static_if_parts length test first (Some other) =
    ap (λ f. visit_parts (plain_form f)) (sym (rolls-StaticIf length test first (Some other))) ∙ ap visit_parts (fold-roll-StatementForm PlainForm PlainBlock PlainStatement form_step block_step statement_step _)
