use Rattle.cx_grammar.specs.Calyx.{ports}
use Rattle.cx_parse.proofs.Steps.{pair}
use Rattle.cx_parse.proofs.ports.ports.Goals as goal

pub returns : goal.returns
unfolding ports
returns c = record { value = λ levels. pair (c.sign.ensures.value levels) (pair (c.some_ports-all.ensures.value levels) (c.sign-2.ensures.value levels)) }
