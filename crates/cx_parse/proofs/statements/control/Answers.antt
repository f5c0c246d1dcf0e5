use Rattle.std.proofs.Common.{sym, ◌∙◌}
use Rattle.cx_grammar.specs.Calyx.{control, block}
use Rattle.cx_parse.proofs.Steps.{pair, empty, first, second}
use Rattle.cx_parse.proofs.statements.control.Goals as goal

pub returns-then-not-next_is : goal.returns-then-not-next_is
unfolding control block
returns-then-not-next_is c = record { value = second (sym c.next_is.ensures.value ∙ c.if-not-next_is.true) empty }

pub returns : goal.returns
unfolding control block
returns c = record { value = first (sym c.next_is.ensures.value ∙ c.if-not-next_is.false) (pair (pair (c.sign.ensures.value c.args.levels) c.block.ensures.value) empty) }
