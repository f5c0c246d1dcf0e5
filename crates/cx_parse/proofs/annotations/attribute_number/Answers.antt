use Rattle.std.proofs.Common.{sym, ◌∙◌}
use Rattle.cx_grammar.specs.Calyx.{attribute_number}
use Rattle.cx_parse.proofs.Steps.{pair, empty, first, second}
use Rattle.cx_parse.proofs.annotations.attribute_number.Goals as goal

pub returns-then-not-next_is : goal.returns-then-not-next_is
unfolding attribute_number
returns-then-not-next_is c = record { value = λ levels. second (sym c.next_is.ensures.value ∙ c.if-not-next_is.true) empty }

pub returns : goal.returns
unfolding attribute_number
returns c = record { value = λ levels. first (sym c.next_is.ensures.value ∙ c.if-not-next_is.false) (pair (pair (c.sign.ensures.value levels) (pair (c.number-n.ensures.value levels) (c.sign-2.ensures.value levels))) empty) }
