use Rattle.std.proofs.Common.{Some, ap, refl, sym, ◌∙◌}
use Rattle.cx_ast.specs.PlainGuards.{PlainGuard, guard_step, plain_guard}
use Rattle.cx_ast.specs.declared.guards.GuardItem.TheFolds.{fold-roll-GuardItem}
use Rattle.cx_ast.specs.declared.guards.GuardItem.TheVariants.{rolls-At}
use Rattle.cx_grammar.specs.Calyx.{window, window_range}
use Rattle.cx_parse.proofs.Steps.{pair, empty, first, second, moved}
use Rattle.cx_parse.proofs.guards.window.Goals as goal

pub returns-then-next_is : goal.returns-then-next_is
unfolding window window_range
returns-then-next_is c = record { value = λ levels. moved (pair (c.sign.ensures.value levels) (first (sym c.next_is.ensures.value ∙ c.if-next_is.true) (pair (c.number.ensures.value levels) empty))) refl (ap (λ (g : PlainGuard). Some g) (ap plain_guard (sym (rolls-At c.number.result)) ∙ fold-roll-GuardItem PlainGuard guard_step _)) }

pub returns-else-next_is : goal.returns-else-next_is
unfolding window window_range
returns-else-next_is c = record { value = λ levels. pair (c.sign.ensures.value levels) (second (sym c.next_is.ensures.value ∙ c.if-next_is.false) (c.window_range.ensures.value levels)) }
