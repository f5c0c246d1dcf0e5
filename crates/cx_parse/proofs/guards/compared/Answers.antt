use Rattle.std.proofs.Common.{Some, ap, refl, sym, ◌∙◌}
use Rattle.cx_ast.specs.PlainGuards.{PlainGuard, guard_step, plain_guard}
use Rattle.cx_ast.specs.declared.guards.GuardItem.TheFolds.{fold-roll-GuardItem}
use Rattle.cx_ast.specs.declared.guards.GuardItem.TheVariants.{rolls-Compare, rolls-Operand}
use Rattle.cx_grammar.specs.Calyx.{compared, cmp}
use Rattle.cx_parse.proofs.Steps.{pair, empty, first, second, as_seen, moved}
use Rattle.cx_parse.proofs.guards.compared.Goals as goal

pub returns-then-next_in : goal.returns-then-next_in
unfolding compared cmp
returns-then-next_in c = record { value = λ levels. moved (as_seen (λ f. f c.args.left) (first (sym c.next_in.ensures.value ∙ c.if-next_in.true) (pair (c.cmp-comparison.ensures.value levels) (c.operand-right.ensures.value levels)))) refl (ap (λ (g : PlainGuard). Some g) (ap plain_guard (sym (rolls-Compare c.cmp-comparison.result c.args.left c.operand-right.result)) ∙ fold-roll-GuardItem PlainGuard guard_step _)) }

pub returns-else-next_in : goal.returns-else-next_in
unfolding compared cmp
returns-else-next_in c = record { value = λ levels. moved (as_seen (λ f. f c.args.left) (second (sym c.next_in.ensures.value ∙ c.if-next_in.false) empty)) refl (ap (λ (g : PlainGuard). Some g) (ap plain_guard (sym (rolls-Operand c.args.left)) ∙ fold-roll-GuardItem PlainGuard guard_step _)) }
