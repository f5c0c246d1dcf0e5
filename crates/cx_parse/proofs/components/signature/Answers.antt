use Rattle.cx_grammar.specs.Calyx.{signature}
use Rattle.cx_parse.proofs.Steps.{pair, stops_first}
use Rattle.cx_parse.proofs.components.signature.Goals as goal

pub returns-in_err-name : goal.returns-in_err-name
unfolding signature
returns-in_err-name c = record { value = λ levels. stops_first (c.in_err-name.ensures.value levels) }

pub returns : goal.returns
unfolding signature
returns c = record { value = λ levels. pair (c.in_ok-name.ensures.value levels) (pair (c.marks-marks.ensures.value levels) (pair (c.ports-inputs.ensures.value levels) (c.outputs-outputs.ensures.value levels))) }
