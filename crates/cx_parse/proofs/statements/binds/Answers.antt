use Rattle.cx_grammar.specs.Calyx.{binds}
use Rattle.cx_parse.proofs.Steps.{pair}
use Rattle.cx_parse.proofs.statements.binds.Goals as goal

pub returns : goal.returns
unfolding binds
returns c = record { value = λ levels. pair (c.sign.ensures.value levels) (pair (c.some_binds-all.ensures.value levels) (c.sign-2.ensures.value levels)) }
