use Rattle.std.proofs.Common.{sym, ◌∙◌}
use Rattle.cx_grammar.specs.Calyx.{group_word}
use Rattle.cx_parse.proofs.Steps.{pair, empty, first, second}
use Rattle.cx_parse.proofs.groups.group_word.Goals as goal

pub returns-then-next_is : goal.returns-then-next_is
unfolding group_word
returns-then-next_is c = record { value = λ levels. first (sym c.next_is.ensures.value ∙ c.if-next_is.true) (pair (c.sign-place.ensures.value levels) (c.sign.ensures.value levels)) }

pub returns-then-next_is-2 : goal.returns-then-next_is-2
unfolding group_word
returns-then-next_is-2 c = record { value = λ levels. second (sym c.next_is.ensures.value ∙ c.if-next_is.false) (first (sym c.next_is-else-next_is.ensures.value ∙ c.if-next_is-2.true) (pair (c.sign-place-then-next_is-2.ensures.value levels) (pair (c.length_of-n.ensures.value levels) (c.sign-then-next_is-2.ensures.value levels)))) }

pub returns-else-next_is-2 : goal.returns-else-next_is-2
unfolding group_word
returns-else-next_is-2 c = record { value = λ levels. second (sym c.next_is.ensures.value ∙ c.if-next_is.false) (second (sym c.next_is-else-next_is.ensures.value ∙ c.if-next_is-2.false) (pair (c.sign-place-else-next_is-2.ensures.value levels) empty)) }
