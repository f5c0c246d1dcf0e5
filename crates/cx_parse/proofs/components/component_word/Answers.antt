use Rattle.std.proofs.Common.{sym, ◌∙◌}
use Rattle.cx_grammar.specs.Calyx.{component_word}
use Rattle.cx_parse.proofs.Steps.{pair, empty, first, second}
use Rattle.cx_parse.proofs.components.component_word.Goals as goal

pub returns-then-next_is : goal.returns-then-next_is
unfolding component_word
returns-then-next_is c = record { value = λ levels. first (sym c.next_is.ensures.value ∙ c.if-next_is.true) (pair (c.sign-place.ensures.value levels) (pair (c.length_of-n.ensures.value levels) (c.sign.ensures.value levels))) }

pub returns : goal.returns
unfolding component_word
returns c = record { value = λ levels. second (sym c.next_is.ensures.value ∙ c.if-next_is.false) (pair (c.sign-place-2.ensures.value levels) empty) }
