use Rattle.std.proofs.Common.{refl, sym, ◌∙◌, ap, map}
use Rattle.cx_ast.specs.PlainTree.{plain_wire}
use Rattle.cx_grammar.specs.Calyx.{wire_list, wire, attributes, attribute, bare_assign, target, bare_group, group_word}
use Rattle.cx_parse.proofs.Lists.{nothing, nearer, step, over, reading_many, keeps_seen}
use Rattle.cx_parse.proofs.groups.wire_list.Goals as goal

pub loop-reader-init : goal.loop-reader-init
unfolding wire_list wire attributes attribute bare_assign target bare_group group_word
loop-reader-init c = nothing (reading_many c.args.levels wire) (ap (map plain_wire) c.new-all.ensures.items)

pub loop-reader-smaller : goal.loop-reader-smaller
unfolding wire_list wire attributes attribute bare_assign target bare_group group_word
loop-reader-smaller c = nearer c.args.levels wire refl (sym c.next_in.ensures.value ∙ c.loop-reader-test.true) c.wire-wire.ensures.value c.keep.ensures.value

pub loop-reader-preserved : goal.loop-reader-preserved
unfolding wire_list wire attributes attribute bare_assign target bare_group group_word
loop-reader-preserved c = step c.args.levels wire refl _ c.loop-reader.invariant (sym c.next_in.ensures.value ∙ c.loop-reader-test.true) c.wire-wire.ensures.value (keeps_seen plain_wire c.keep.ensures.value)

pub returns : goal.returns
unfolding wire_list wire attributes attribute bare_assign target bare_group group_word
returns c = record { value = record { leads = over c.args.levels wire refl _ c.loop-reader.invariant (sym c.next_in.ensures.value ∙ c.loop-reader-test.false) } }
