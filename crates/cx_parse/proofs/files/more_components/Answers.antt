use Rattle.std.proofs.Common.{refl, sym, ◌∙◌, ap, map}
use Rattle.cx_ast.specs.PlainTree.{plain_component}
use Rattle.cx_grammar.specs.Calyx.{components, component, attributes, attribute, component_word}
use Rattle.cx_parse.proofs.Lists.{begun, nearer, step, over, reading_many, keeps_seen}
use Rattle.cx_parse.proofs.files.more_components.Goals as goal

pub loop-reader-init : goal.loop-reader-init
unfolding components component attributes attribute component_word
loop-reader-init c = begun (reading_many c.args.levels component) {before = map plain_component c.new-all.result.items} (ap (map plain_component) c.new-all.ensures.items) (keeps_seen plain_component c.keep.ensures.value)

pub loop-reader-smaller : goal.loop-reader-smaller
unfolding components component attributes attribute component_word
loop-reader-smaller c = nearer c.args.levels component refl (sym c.next_in.ensures.value ∙ c.loop-reader-test.true) c.component-component.ensures.value c.keep-in-loop-reader.ensures.value

pub loop-reader-preserved : goal.loop-reader-preserved
unfolding components component attributes attribute component_word
loop-reader-preserved c = step c.args.levels component refl _ c.loop-reader.invariant (sym c.next_in.ensures.value ∙ c.loop-reader-test.true) c.component-component.ensures.value (keeps_seen plain_component c.keep-in-loop-reader.ensures.value)

pub returns : goal.returns
unfolding components component attributes attribute component_word
returns c = record { value = record { leads = over c.args.levels component refl _ c.loop-reader.invariant (sym c.next_in.ensures.value ∙ c.loop-reader-test.false) } }
