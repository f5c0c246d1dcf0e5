use Rattle.std.proofs.Common.{Some, ap, refl, sym, ◌∙◌}
use Rattle.cx_ast.specs.PlainGuards.{PlainGuard, guard_step, plain_guard}
use Rattle.cx_ast.specs.declared.guards.GuardItem.TheFolds.{fold-roll-GuardItem}
use Rattle.cx_ast.specs.declared.guards.GuardItem.TheVariants.{rolls-During}
use Rattle.cx_grammar.specs.Calyx.{window_range}
use Rattle.cx_parse.proofs.Steps.{pair, moved}
use Rattle.cx_parse.proofs.guards.window_range.Goals as goal

pub returns : goal.returns
unfolding window_range
returns c = record { value = λ levels. moved (pair (c.sign.ensures.value levels) (pair (c.number-from.ensures.value levels) (pair (c.sign-2.ensures.value levels) (pair (c.number-to.ensures.value levels) (c.sign-3.ensures.value levels))))) refl (ap (λ (g : PlainGuard). Some g) (ap plain_guard (sym (rolls-During c.number-from.result c.number-to.result)) ∙ fold-roll-GuardItem PlainGuard guard_step _)) }
