use Rattle.cx_grammar.specs.Calyx.{attribute}
use Rattle.cx_parse.proofs.Steps.{pair, stops_first, stops_second}
use Rattle.cx_parse.proofs.annotations.attribute.Goals as goal

pub returns-in_err-name : goal.returns-in_err-name
unfolding attribute
returns-in_err-name c = record { value = λ levels. stops_second (c.sign.ensures.value levels) (stops_first (c.in_err-name.ensures.value levels)) }

pub returns : goal.returns
unfolding attribute
returns c = record { value = λ levels. pair (c.sign.ensures.value levels) (pair (c.in_ok-name.ensures.value levels) (c.attribute_number-number.ensures.value levels)) }
