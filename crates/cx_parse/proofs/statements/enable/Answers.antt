use Rattle.std.proofs.Common.{Some, ap, refl, sym, ◌∙◌}
use Rattle.cx_ast.specs.PlainStatements.{PlainForm, PlainBlock, PlainStatement, form_step, block_step, statement_step, plain_form}
use Rattle.cx_ast.specs.declared.statements.StatementForm.TheFolds.{fold-roll-StatementForm}
use Rattle.cx_ast.specs.declared.statements.StatementForm.TheVariants.{rolls-Enable}
use Rattle.cx_grammar.specs.Calyx.{enable}
use Rattle.cx_parse.proofs.Steps.{pair, stops_first, moved}
use Rattle.cx_parse.proofs.statements.enable.Goals as goal

pub returns-in_err-group : goal.returns-in_err-group
unfolding enable
returns-in_err-group c = record { value = λ levels. stops_first (c.in_err-group.ensures.value levels) }

pub returns : goal.returns
unfolding enable
returns c = record { value = λ levels. moved (pair (c.in_ok-group.ensures.value levels) (pair (c.marks-marks.ensures.value levels) (c.sign.ensures.value levels))) refl (ap (λ (form : PlainForm). Some (form, c.in_ok-group.place)) (ap plain_form (sym (rolls-Enable c.in_ok-group.group c.marks-marks.result)) ∙ fold-roll-StatementForm PlainForm PlainBlock PlainStatement form_step block_step statement_step _)) }
