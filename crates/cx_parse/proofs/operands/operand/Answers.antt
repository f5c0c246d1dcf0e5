use Rattle.std.proofs.Common.{sym, ◌∙◌}
use Rattle.cx_grammar.specs.Calyx.{operand, target}
use Rattle.cx_parse.proofs.Steps.{first, second}
use Rattle.cx_parse.proofs.operands.operand.Goals as goal

pub returns-then-next_is : goal.returns-then-next_is
unfolding operand target
returns-then-next_is c = record { value = λ levels. first (sym c.next_is.ensures.value ∙ c.if-next_is.true) (c.target.ensures.value levels) }

pub returns-else-next_is : goal.returns-else-next_is
unfolding operand target
returns-else-next_is c = record { value = λ levels. second (sym c.next_is.ensures.value ∙ c.if-next_is.false) (c.literal.ensures.value levels) }
