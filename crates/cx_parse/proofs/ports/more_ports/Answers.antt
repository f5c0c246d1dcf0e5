use Rattle.std.proofs.Common.{refl, sym, ◌∙◌, ap, map}
use Rattle.cx_ast.specs.PlainTree.{plain_port}
use Rattle.cx_grammar.specs.Calyx.{port, attributes, attribute}
use Rattle.cx_parse.proofs.Lists.{begun, keeps_seen}
use Rattle.cx_parse.proofs.Commas.{reading_commas, comma_step, comma_last, comma_over, comma_nearer}
use Rattle.cx_parse.proofs.ports.more_ports.Goals as goal

pub loop-reader-init : goal.loop-reader-init
unfolding port attributes attribute
loop-reader-init c = λ levels. begun (reading_commas levels port) {before = map plain_port c.new-all.result.items} (ap (map plain_port) c.new-all.ensures.items) (keeps_seen plain_port c.keep.ensures.value)

pub loop-reader-smaller : goal.loop-reader-smaller
unfolding port attributes attribute
loop-reader-smaller c = comma_nearer 0 port refl (sym c.next_is.ensures.value ∙ c.loop-reader-test.true) (c.sign.ensures.value 0) (sym c.next_in.ensures.value ∙ c.if-not-next_in.false) (c.port-port.ensures.value 0) c.keep-in-loop-reader.ensures.value

pub loop-reader-preserved : goal.loop-reader-preserved
unfolding port attributes attribute
loop-reader-preserved c = λ levels. comma_step levels port refl _ (c.loop-reader.invariant levels) (sym c.next_is.ensures.value ∙ c.loop-reader-test.true) (c.sign.ensures.value levels) (sym c.next_in.ensures.value ∙ c.if-not-next_in.false) (c.port-port.ensures.value levels) (keeps_seen plain_port c.keep-in-loop-reader.ensures.value)

pub returns-then-not-next_in : goal.returns-then-not-next_in
unfolding port attributes attribute
returns-then-not-next_in c = record { value = λ levels. record { leads = comma_last levels port refl _ (c.loop-reader.invariant levels) (sym c.next_is.ensures.value ∙ c.loop-reader-test.true) (c.sign.ensures.value levels) (sym c.next_in.ensures.value ∙ c.if-not-next_in.true) } }

pub returns : goal.returns
unfolding port attributes attribute
returns c = record { value = λ levels. record { leads = comma_over levels port refl _ (c.loop-reader.invariant levels) (sym c.next_is.ensures.value ∙ c.loop-reader-test.false) } }
