use Rattle.std.proofs.Common.{ap, sym, ◌∙◌}
use Rattle.cx_grammar.specs.Calyx.{after_operand, guard_value, compared, cmp, guarded, more_comps, next_comp, more_conjs, next_conj}
use Rattle.cx_parse.proofs.Steps.{pair, empty, joined, seen_first, seen_second}
use Rattle.cx_parse.proofs.assignments.after_operand.Goals as goal

pub returns-then-next_in : goal.returns-then-next_in
unfolding after_operand guard_value compared cmp guarded more_comps next_comp more_conjs next_conj
returns-then-next_in c = record { value = seen_first (sym c.next_in.ensures.value ∙ c.if-next_in.true) (joined (λ x k e q. ap k e ∙ q) (c.compared-part.ensures.value c.args.levels) c.guarded.ensures.value) }

pub returns-else-next_in : goal.returns-else-next_in
unfolding after_operand guard_value compared cmp guarded more_comps next_comp more_conjs next_conj
returns-else-next_in c = record { value = seen_second (sym c.next_in.ensures.value ∙ c.if-next_in.false) (pair empty empty) }
