use Rattle.std.proofs.Common.{refl, sym, ◌∙◌}
use Rattle.cx_grammar.specs.Calyx.{attributes, attribute}
use Rattle.cx_parse.proofs.Lists.{nothing, nearer, step, over, reading_many}
use Rattle.cx_parse.proofs.annotations.attributes.Goals as goal

pub loop-reader-init : goal.loop-reader-init
unfolding attributes attribute
loop-reader-init c = λ levels. nothing (reading_many levels attribute) c.new-all.ensures.items

pub loop-reader-smaller : goal.loop-reader-smaller
unfolding attributes attribute
loop-reader-smaller c = nearer 0 attribute refl (sym c.next_is.ensures.value ∙ c.loop-reader-test.true) (c.attribute-attribute.ensures.value 0) c.keep.ensures.value

pub loop-reader-preserved : goal.loop-reader-preserved
unfolding attributes attribute
loop-reader-preserved c = λ levels. step levels attribute refl _ (c.loop-reader.invariant levels) (sym c.next_is.ensures.value ∙ c.loop-reader-test.true) (c.attribute-attribute.ensures.value levels) c.keep.ensures.value

pub returns : goal.returns
unfolding attributes attribute
returns c = record { value = λ levels. record { leads = over levels attribute refl _ (c.loop-reader.invariant levels) (sym c.next_is.ensures.value ∙ c.loop-reader-test.false) } }
