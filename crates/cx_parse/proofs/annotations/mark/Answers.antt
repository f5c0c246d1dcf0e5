use Rattle.cx_grammar.specs.Calyx.{mark}
use Rattle.cx_parse.proofs.Steps.{pair, stops_first}
use Rattle.cx_parse.proofs.annotations.mark.Goals as goal

pub returns-in_err-name : goal.returns-in_err-name
unfolding mark
returns-in_err-name c = record { value = λ levels. stops_first (c.in_err-name.ensures.value levels) }

pub returns : goal.returns
unfolding mark
returns c = record { value = λ levels. pair (c.in_ok-name.ensures.value levels) (pair (c.sign.ensures.value levels) (c.number-number.ensures.value levels)) }
