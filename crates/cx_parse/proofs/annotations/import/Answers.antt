use Rattle.cx_grammar.specs.Calyx.{import}
use Rattle.cx_parse.proofs.Steps.{pair, stops_first, stops_second}
use Rattle.cx_parse.proofs.annotations.import.Goals as goal

pub returns-in_err-path : goal.returns-in_err-path
unfolding import
returns-in_err-path c = record { value = λ levels. stops_second (c.sign-place.ensures.value levels) (stops_first (c.in_err-path.ensures.value levels)) }

pub returns : goal.returns
unfolding import
returns c = record { value = λ levels. pair (c.sign-place.ensures.value levels) (pair (c.in_ok-path.ensures.value levels) (c.sign.ensures.value levels)) }
