use Rattle.std.proofs.Common.{refl, sym, ◌∙◌}
use Rattle.cx_grammar.specs.Calyx.{more_numbers, next_number}
use Rattle.cx_parse.proofs.Steps.{behind_one}
use Rattle.cx_parse.proofs.Lists.{begun, nearer, step, over, reading_many}
use Rattle.cx_parse.proofs.cells.more_numbers.Goals as goal

pub loop-reader-init : goal.loop-reader-init
unfolding more_numbers next_number
loop-reader-init c = λ levels. begun (reading_many levels next_number) {before = c.new-all.result.items} c.new-all.ensures.items c.keep.ensures.value

pub loop-reader-smaller : goal.loop-reader-smaller
unfolding more_numbers next_number
loop-reader-smaller c = nearer 0 next_number refl (sym c.next_is.ensures.value ∙ c.loop-reader-test.true) (behind_one (c.sign.ensures.value 0) (c.number-n.ensures.value 0)) c.keep-in-loop-reader.ensures.value

pub loop-reader-preserved : goal.loop-reader-preserved
unfolding more_numbers next_number
loop-reader-preserved c = λ levels. step levels next_number refl _ (c.loop-reader.invariant levels) (sym c.next_is.ensures.value ∙ c.loop-reader-test.true) (behind_one (c.sign.ensures.value levels) (c.number-n.ensures.value levels)) c.keep-in-loop-reader.ensures.value

pub returns : goal.returns
unfolding more_numbers next_number
returns c = record { value = λ levels. record { leads = over levels next_number refl _ (c.loop-reader.invariant levels) (sym c.next_is.ensures.value ∙ c.loop-reader-test.false) } }
