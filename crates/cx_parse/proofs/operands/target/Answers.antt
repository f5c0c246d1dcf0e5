use Rattle.std.proofs.Common.{ap, ◌∙◌}
use Rattle.cx_ast.specs.declared.operands.OperandForm.{OperandForm}
use Rattle.cx_grammar.specs.Calyx.{target, target_of}
use Rattle.cx_parse.proofs.Steps.{stops_first, joined, as_seen, plainly}
use Rattle.cx_parse.proofs.operands.target.Goals as goal

pub returns-in-Some : goal.returns-in-Some
unfolding target
returns-in-Some c = record { value = λ levels. plainly (joined (λ n form e k. ap (λ n. target_of n form) e ∙ ap (λ (x : OperandForm). record { form = x; place = c.in-Some.place }) k) (as_seen (λ n. n) (c.in-Some.ensures.value levels)) (c.reference-form.ensures.value levels)) }

pub returns-in-None : goal.returns-in-None
unfolding target
returns-in-None c = record { value = λ levels. stops_first (c.in-None.ensures.value levels) }
