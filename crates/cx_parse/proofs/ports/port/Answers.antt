use Rattle.cx_grammar.specs.Calyx.{port}
use Rattle.cx_parse.proofs.Steps.{pair, stops_first, stops_second}
use Rattle.cx_parse.proofs.ports.port.Goals as goal

pub returns-in_err-name : goal.returns-in_err-name
unfolding port
returns-in_err-name c = record { value = λ levels. stops_second (c.attributes-attributes.ensures.value levels) (stops_first (c.in_err-name.ensures.value levels)) }

pub returns : goal.returns
unfolding port
returns c = record { value = λ levels. pair (c.attributes-attributes.ensures.value levels) (pair (c.in_ok-name.ensures.value levels) (pair (c.sign.ensures.value levels) (c.number-width.ensures.value levels))) }
