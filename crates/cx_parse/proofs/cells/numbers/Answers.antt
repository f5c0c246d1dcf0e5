use Rattle.std.proofs.Common.{ℕ, List, Some, ap, refl, sym, ◌∙◌}
use Rattle.cx_grammar.specs.Calyx.{numbers}
use Rattle.cx_parse.proofs.Steps.{empty, first, second, moved, headed}
use Rattle.cx_parse.proofs.cells.numbers.Goals as goal

pub returns-then-not-next_is : goal.returns-then-not-next_is
unfolding numbers
returns-then-not-next_is c = record { value = λ levels. moved (second (sym c.next_is.ensures.value ∙ c.if-not-next_is.true) empty) refl (ap (λ (xs : List ℕ). Some xs) c.new.ensures.items) }

pub returns : goal.returns
unfolding numbers
returns c = record { value = λ levels. first (sym c.next_is.ensures.value ∙ c.if-not-next_is.false) (headed (λ ns. ns) (c.number-first.ensures.value levels) (c.more_numbers.ensures.value levels)) }
