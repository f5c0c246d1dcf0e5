use Rattle.std.proofs.Common.{sym, ◌∙◌}
use Rattle.cx_grammar.specs.Calyx.{reference}
use Rattle.cx_parse.proofs.Steps.{pair, empty, first, second, stops_first, stops_second, as_seen}
use Rattle.cx_parse.proofs.operands.reference.Goals as goal

pub returns-in-Some : goal.returns-in-Some
unfolding reference
returns-in-Some c = record { value = λ levels. as_seen (λ f. f c.args.first) (first (sym c.next_is.ensures.value ∙ c.if-next_is.true) (pair (c.sign.ensures.value levels) (pair (c.in-Some.ensures.value levels) empty))) }

pub returns-in-None : goal.returns-in-None
unfolding reference
returns-in-None c = record { value = λ levels. stops_first (first (sym c.next_is.ensures.value ∙ c.if-next_is.true) (stops_second (c.sign.ensures.value levels) (stops_first (c.in-None.ensures.value levels)))) }

pub returns-in-Some-word : goal.returns-in-Some-word
unfolding reference
returns-in-Some-word c = record { value = λ levels. as_seen (λ f. f c.args.first) (second (sym c.next_is.ensures.value ∙ c.if-next_is.false) (first (sym c.next_is-2.ensures.value ∙ c.if-next_is-2.true) (pair (c.sign-then-next_is-2.ensures.value levels) (pair (pair (c.in-Some-word.ensures.value levels) empty) (c.sign-in-Some-word.ensures.value levels))))) }

pub returns-in-None-word : goal.returns-in-None-word
unfolding reference
returns-in-None-word c = record { value = λ levels. stops_first (second (sym c.next_is.ensures.value ∙ c.if-next_is.false) (first (sym c.next_is-2.ensures.value ∙ c.if-next_is-2.true) (stops_second (c.sign-then-next_is-2.ensures.value levels) (stops_first (stops_first (c.in-None-word.ensures.value levels)))))) }

pub returns : goal.returns
unfolding reference
returns c = record { value = λ levels. as_seen (λ f. f c.args.first) (second (sym c.next_is.ensures.value ∙ c.if-next_is.false) (second (sym c.next_is-2.ensures.value ∙ c.if-next_is-2.false) empty)) }
