use Rattle.std.proofs.Common.{List, Some, ap, refl, sym, ◌∙◌}
use Rattle.cx_ast.specs.declared.components.Mark.{Mark}
use Rattle.cx_grammar.specs.Calyx.{marks}
use Rattle.cx_parse.proofs.Steps.{pair, empty, first, second, stops_first, stops_second, moved, headed, seen_before}
use Rattle.cx_parse.proofs.annotations.marks.Goals as goal

pub returns-then-not-next_is : goal.returns-then-not-next_is
unfolding marks
returns-then-not-next_is c = record { value = λ levels. moved (second (sym c.next_is.ensures.value ∙ c.if-not-next_is.true) empty) refl (ap (λ (xs : List Mark). Some xs) c.new.ensures.items) }

pub returns-in-None : goal.returns-in-None
unfolding marks
returns-in-None c = record { value = λ levels. first (sym c.next_is.ensures.value ∙ c.if-not-next_is.false) (stops_second (c.sign.ensures.value levels) (stops_first (c.in-None.ensures.value levels))) }

pub returns-in-Some : goal.returns-in-Some
unfolding marks
returns-in-Some c = record { value = λ levels. first (sym c.next_is.ensures.value ∙ c.if-not-next_is.false) (pair (c.sign.ensures.value levels) (headed (λ ms. ms) (c.in-Some.ensures.value levels) (seen_before (c.more_marks-all.ensures.value levels) (c.sign-in-Some.ensures.value levels)))) }
