use Rattle.std.proofs.Common.{sym, ◌∙◌}
use Rattle.cx_grammar.specs.Calyx.{cmp}
use Rattle.cx_parse.proofs.Steps.{pair, empty, first, second}
use Rattle.cx_parse.proofs.operands.cmp.Goals as goal

pub returns-then-next_is : goal.returns-then-next_is
unfolding cmp
returns-then-next_is c = record { value = λ levels. first (sym c.next_is.ensures.value ∙ c.if-next_is.true) (pair (c.sign.ensures.value levels) empty) }

pub returns-then-next_is-2 : goal.returns-then-next_is-2
unfolding cmp
returns-then-next_is-2 c = record { value = λ levels. second (sym c.next_is.ensures.value ∙ c.if-next_is.false) (first (sym c.next_is-2.ensures.value ∙ c.if-next_is-2.true) (pair (c.sign-then-next_is-2.ensures.value levels) empty)) }

pub returns-then-next_is-3 : goal.returns-then-next_is-3
unfolding cmp
returns-then-next_is-3 c = record { value = λ levels. second (sym c.next_is.ensures.value ∙ c.if-next_is.false) (second (sym c.next_is-2.ensures.value ∙ c.if-next_is-2.false) (first (sym c.next_is-3.ensures.value ∙ c.if-next_is-3.true) (pair (c.sign-then-next_is-3.ensures.value levels) empty))) }

pub returns-then-next_is-4 : goal.returns-then-next_is-4
unfolding cmp
returns-then-next_is-4 c = record { value = λ levels. second (sym c.next_is.ensures.value ∙ c.if-next_is.false) (second (sym c.next_is-2.ensures.value ∙ c.if-next_is-2.false) (second (sym c.next_is-3.ensures.value ∙ c.if-next_is-3.false) (first (sym c.next_is-4.ensures.value ∙ c.if-next_is-4.true) (pair (c.sign-then-next_is-4.ensures.value levels) empty)))) }

pub returns-then-next_is-5 : goal.returns-then-next_is-5
unfolding cmp
returns-then-next_is-5 c = record { value = λ levels. second (sym c.next_is.ensures.value ∙ c.if-next_is.false) (second (sym c.next_is-2.ensures.value ∙ c.if-next_is-2.false) (second (sym c.next_is-3.ensures.value ∙ c.if-next_is-3.false) (second (sym c.next_is-4.ensures.value ∙ c.if-next_is-4.false) (first (sym c.next_is-5.ensures.value ∙ c.if-next_is-5.true) (pair (c.sign-then-next_is-5.ensures.value levels) empty))))) }

pub returns : goal.returns
unfolding cmp
returns c = record { value = λ levels. second (sym c.next_is.ensures.value ∙ c.if-next_is.false) (second (sym c.next_is-2.ensures.value ∙ c.if-next_is-2.false) (second (sym c.next_is-3.ensures.value ∙ c.if-next_is-3.false) (second (sym c.next_is-4.ensures.value ∙ c.if-next_is-4.false) (second (sym c.next_is-5.ensures.value ∙ c.if-next_is-5.false) (pair (c.sign-2.ensures.value levels) empty))))) }
