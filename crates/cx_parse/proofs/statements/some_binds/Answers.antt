use Rattle.std.proofs.Common.{List, Some, ap, refl, sym, ◌∙◌}
use Rattle.cx_ast.specs.declared.statements.BindItem.{BindItem}
use Rattle.cx_grammar.specs.Calyx.{some_binds, bind}
use Rattle.cx_parse.proofs.Steps.{empty, first, second, moved}
use Rattle.cx_parse.proofs.Commas.{commas, no_commas}
use Rattle.cx_parse.proofs.statements.some_binds.Goals as goal

pub returns-then-not-next_is : goal.returns-then-not-next_is
unfolding some_binds bind
returns-then-not-next_is c = record { value = λ levels. moved (second (sym c.next_is.ensures.value ∙ c.if-not-next_is.true) empty) refl (ap (λ (xs : List BindItem). Some xs) c.new.ensures.items) }

pub returns-in-Some : goal.returns-in-Some
unfolding some_binds bind
returns-in-Some c = record { value = λ levels. first (sym c.next_is.ensures.value ∙ c.if-not-next_is.false) (commas levels bind refl (c.in-Some.ensures.value levels) (c.more_binds.ensures.value levels)) }

pub returns-in-None : goal.returns-in-None
unfolding some_binds bind
returns-in-None c = record { value = λ levels. first (sym c.next_is.ensures.value ∙ c.if-not-next_is.false) (no_commas levels bind refl (c.in-None.ensures.value levels)) }
