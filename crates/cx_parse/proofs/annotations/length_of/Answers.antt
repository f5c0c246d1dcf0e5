use Rattle.cx_grammar.specs.Calyx.{length_of}
use Rattle.cx_parse.proofs.Steps.{pair}
use Rattle.cx_parse.proofs.annotations.length_of.Goals as goal

pub returns : goal.returns
unfolding length_of
returns c = record { value = λ levels. pair (c.sign.ensures.value levels) (pair (c.number-n.ensures.value levels) (c.sign-2.ensures.value levels)) }
