use Rattle.std.proofs.Common.{refl, sym, ◌∙◌}
use Rattle.cx_grammar.specs.Calyx.{bind}
use Rattle.cx_parse.proofs.Lists.{begun}
use Rattle.cx_parse.proofs.Commas.{reading_commas, comma_step, comma_last, comma_over, comma_nearer}
use Rattle.cx_parse.proofs.statements.more_binds.Goals as goal

pub loop-reader-init : goal.loop-reader-init
unfolding bind
loop-reader-init c = λ levels. begun (reading_commas levels bind) {before = c.new-all.result.items} c.new-all.ensures.items c.keep.ensures.value

pub loop-reader-smaller : goal.loop-reader-smaller
unfolding bind
loop-reader-smaller c = comma_nearer 0 bind refl (sym c.next_is.ensures.value ∙ c.loop-reader-test.true) (c.sign.ensures.value 0) (sym c.next_is-in-loop-reader.ensures.value ∙ c.if-not-next_is.false) (c.bind-bind.ensures.value 0) c.keep-in-loop-reader.ensures.value

pub loop-reader-preserved : goal.loop-reader-preserved
unfolding bind
loop-reader-preserved c = λ levels. comma_step levels bind refl _ (c.loop-reader.invariant levels) (sym c.next_is.ensures.value ∙ c.loop-reader-test.true) (c.sign.ensures.value levels) (sym c.next_is-in-loop-reader.ensures.value ∙ c.if-not-next_is.false) (c.bind-bind.ensures.value levels) c.keep-in-loop-reader.ensures.value

pub returns-then-not-next_is : goal.returns-then-not-next_is
unfolding bind
returns-then-not-next_is c = record { value = λ levels. record { leads = comma_last levels bind refl _ (c.loop-reader.invariant levels) (sym c.next_is.ensures.value ∙ c.loop-reader-test.true) (c.sign.ensures.value levels) (sym c.next_is-in-loop-reader.ensures.value ∙ c.if-not-next_is.true) } }

pub returns : goal.returns
unfolding bind
returns c = record { value = λ levels. record { leads = comma_over levels bind refl _ (c.loop-reader.invariant levels) (sym c.next_is.ensures.value ∙ c.loop-reader-test.false) } }
