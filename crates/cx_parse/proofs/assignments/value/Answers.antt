use Rattle.std.proofs.Common.{sym, ◌∙◌}
use Rattle.cx_grammar.specs.Calyx.{value, prefixed, window}
use Rattle.cx_parse.proofs.Steps.{first, second, applied}
use Rattle.cx_parse.proofs.assignments.value.Goals as goal

pub returns-then-next_in : goal.returns-then-next_in
unfolding value prefixed window
returns-then-next_in c = record { value = first (sym c.next_in.ensures.value ∙ c.if-next_in.true) (applied c.prefixed-first.ensures.value c.guarded.ensures.value) }

pub returns-else-next_in : goal.returns-else-next_in
unfolding value prefixed window
returns-else-next_in c = record { value = second (sym c.next_in.ensures.value ∙ c.if-next_in.false) (applied (c.operand-first.ensures.value c.args.levels) c.after_operand.ensures.value) }
