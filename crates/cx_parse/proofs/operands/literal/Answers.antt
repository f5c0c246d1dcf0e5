use Rattle.std.proofs.Common.{Some, ap, refl}
use Rattle.cx_ast.specs.declared.operands.OperandForm.{OperandForm}
use Rattle.cx_grammar.specs.Calyx.{literal}
use Rattle.cx_parse.proofs.Steps.{one, no_token, moved}
use Rattle.cx_parse.proofs.operands.literal.Goals as goal

pub returns-in-Some : goal.returns-in-Some
unfolding literal
returns-in-Some c = record { value = λ levels. moved (one (c.in-Some.ensures.value levels)) refl (ap (λ (form : OperandForm). Some (record { form = form; place = c.in-Some.token.now.place })) c.literal_of.ensures.value) }

pub returns-in-None : goal.returns-in-None
unfolding literal
returns-in-None c = record { value = λ levels. no_token (c.in-None.ensures.value levels) }
