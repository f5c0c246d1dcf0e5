use Rattle.std.proofs.Common.{Some, ap, refl, sym, ◌∙◌}
use Rattle.cx_ast.specs.PlainStatements.{PlainForm, PlainBlock, PlainStatement, form_step, block_step, statement_step, plain_form}
use Rattle.cx_ast.specs.declared.statements.StatementForm.TheFolds.{fold-roll-StatementForm}
use Rattle.cx_ast.specs.declared.statements.StatementForm.TheVariants.{rolls-Invoke}
use Rattle.cx_grammar.specs.Calyx.{invoke}
use Rattle.cx_parse.proofs.Steps.{pair, stops_second, moved}
use Rattle.cx_parse.proofs.statements.invoke.Goals as goal

pub returns-in_err-cell : goal.returns-in_err-cell
unfolding invoke
returns-in_err-cell c = record { value = λ levels. stops_second (c.sign-place.ensures.value levels) (c.in_err-cell.ensures.value levels) }

pub returns : goal.returns
unfolding invoke
returns c = record { value = λ levels. moved (pair (c.sign-place.ensures.value levels) (c.in_ok-cell.ensures.value levels)) refl (ap (λ (form : PlainForm). Some (form, c.sign-place.result)) (ap plain_form (sym (rolls-Invoke c.in_ok-cell.cell c.in_ok-cell.inputs c.in_ok-cell.outputs)) ∙ fold-roll-StatementForm PlainForm PlainBlock PlainStatement form_step block_step statement_step _)) }
