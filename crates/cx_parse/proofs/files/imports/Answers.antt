use Rattle.std.proofs.Common.{refl, sym, ◌∙◌}
use Rattle.cx_grammar.specs.Calyx.{imports, import}
use Rattle.cx_parse.proofs.Lists.{nothing, nearer, step, over, reading_many}
use Rattle.cx_parse.proofs.files.imports.Goals as goal

pub loop-reader-init : goal.loop-reader-init
unfolding imports import
loop-reader-init c = λ levels. nothing (reading_many levels import) c.new-all.ensures.items

pub loop-reader-smaller : goal.loop-reader-smaller
unfolding imports import
loop-reader-smaller c = nearer 0 import refl (sym c.next_is.ensures.value ∙ c.loop-reader-test.true) (c.import-import.ensures.value 0) c.keep.ensures.value

pub loop-reader-preserved : goal.loop-reader-preserved
unfolding imports import
loop-reader-preserved c = λ levels. step levels import refl _ (c.loop-reader.invariant levels) (sym c.next_is.ensures.value ∙ c.loop-reader-test.true) (c.import-import.ensures.value levels) c.keep.ensures.value

pub returns : goal.returns
unfolding imports import
returns c = record { value = λ levels. record { leads = over levels import refl _ (c.loop-reader.invariant levels) (sym c.next_is.ensures.value ∙ c.loop-reader-test.false) } }
