use Rattle.std.proofs.Common.{sym, ◌∙◌}
use Rattle.cx_grammar.specs.Calyx.{optional_length, length_of}
use Rattle.cx_parse.proofs.Steps.{pair, empty, first, second}
use Rattle.cx_parse.proofs.annotations.optional_length.Goals as goal

pub returns-then-next_is : goal.returns-then-next_is
unfolding optional_length length_of
returns-then-next_is c = record { value = λ levels. first (sym c.next_is.ensures.value ∙ c.if-next_is.true) (pair (c.length_of.ensures.value levels) empty) }

pub returns-else-next_is : goal.returns-else-next_is
unfolding optional_length length_of
returns-else-next_is c = record { value = λ levels. second (sym c.next_is.ensures.value ∙ c.if-next_is.false) empty }
