use Rattle.cx_grammar.specs.Calyx.{invoke_rest}
use Rattle.cx_parse.proofs.Steps.{pair, stops_first}
use Rattle.cx_parse.proofs.statements.invoke_rest.Goals as goal

pub returns-in_err-cell : goal.returns-in_err-cell
unfolding invoke_rest
returns-in_err-cell c = record { value = λ levels. stops_first (c.in_err-cell.ensures.value levels) }

pub returns : goal.returns
unfolding invoke_rest
returns c = record { value = λ levels. pair (c.in_ok-cell.ensures.value levels) (pair (c.binds-inputs.ensures.value levels) (pair (c.binds-outputs.ensures.value levels) (c.sign.ensures.value levels))) }
