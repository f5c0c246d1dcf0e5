use Rattle.cx_grammar.specs.Calyx.{bind}
use Rattle.cx_parse.proofs.Steps.{pair, stops_first}
use Rattle.cx_parse.proofs.statements.bind.Goals as goal

pub returns-in_err-name : goal.returns-in_err-name
unfolding bind
returns-in_err-name c = record { value = λ levels. stops_first (c.in_err-name.ensures.value levels) }

pub returns : goal.returns
unfolding bind
returns c = record { value = λ levels. pair (c.in_ok-name.ensures.value levels) (pair (c.sign.ensures.value levels) (c.operand-value.ensures.value levels)) }
