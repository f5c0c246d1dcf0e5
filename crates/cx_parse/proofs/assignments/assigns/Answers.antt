use Rattle.std.proofs.Common.{refl, sym, ◌∙◌, ap, map}
use Rattle.cx_ast.specs.PlainTree.{plain_assign}
use Rattle.cx_grammar.specs.Calyx.{assigns, assign, attributes, attribute, bare_assign, target}
use Rattle.cx_parse.proofs.Lists.{nothing, nearer, step, over, reading_many, keeps_seen}
use Rattle.cx_parse.proofs.assignments.assigns.Goals as goal

pub loop-reader-init : goal.loop-reader-init
unfolding assigns assign attributes attribute bare_assign target
loop-reader-init c = nothing (reading_many c.args.levels assign) (ap (map plain_assign) c.new-all.ensures.items)

pub loop-reader-smaller : goal.loop-reader-smaller
unfolding assigns assign attributes attribute bare_assign target
loop-reader-smaller c = nearer c.args.levels assign refl (sym c.next_in.ensures.value ∙ c.loop-reader-test.true) c.assign-assign.ensures.value c.keep.ensures.value

pub loop-reader-preserved : goal.loop-reader-preserved
unfolding assigns assign attributes attribute bare_assign target
loop-reader-preserved c = step c.args.levels assign refl _ c.loop-reader.invariant (sym c.next_in.ensures.value ∙ c.loop-reader-test.true) c.assign-assign.ensures.value (keeps_seen plain_assign c.keep.ensures.value)

pub returns : goal.returns
unfolding assigns assign attributes attribute bare_assign target
returns c = record { value = record { leads = over c.args.levels assign refl _ c.loop-reader.invariant (sym c.next_in.ensures.value ∙ c.loop-reader-test.false) } }
