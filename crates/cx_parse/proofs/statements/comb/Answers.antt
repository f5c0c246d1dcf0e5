use Rattle.std.proofs.Common.{sym, ◌∙◌}
use Rattle.cx_grammar.specs.Calyx.{comb}
use Rattle.cx_parse.proofs.Steps.{pair, empty, first, second, stops_first, stops_second}
use Rattle.cx_parse.proofs.statements.comb.Goals as goal

pub returns-then-not-next_is : goal.returns-then-not-next_is
unfolding comb
returns-then-not-next_is c = record { value = λ levels. second (sym c.next_is.ensures.value ∙ c.if-not-next_is.true) empty }

pub returns-in-Some : goal.returns-in-Some
unfolding comb
returns-in-Some c = record { value = λ levels. first (sym c.next_is.ensures.value ∙ c.if-not-next_is.false) (pair (pair (c.sign.ensures.value levels) (pair (c.in-Some.ensures.value levels) empty)) empty) }

pub returns-in-None : goal.returns-in-None
unfolding comb
returns-in-None c = record { value = λ levels. first (sym c.next_is.ensures.value ∙ c.if-not-next_is.false) (stops_first (stops_second (c.sign.ensures.value levels) (stops_first (c.in-None.ensures.value levels)))) }
