use Rattle.std.proofs.Common.{◌≡◌, refl, subst, sym, arith}
use Rattle.cx_interp.specs.declared.answers.Answer.TheVariants.{More}
use Rattle.cx_interp.specs.Done.{Done}
use Rattle.cx_interp.specs.Doings.{idle_does}
use Rattle.cx_interp.proofs.DoneLemmas.{done_idle, done_no_turn}
use Rattle.cx_interp.proofs.answers.idle_turn.Goals as goal

pub returns-then-budget-gt0 : goal.returns-then-budget-gt0
returns-then-budget-gt0 c d rows n driving fits = done_idle d n driving rows c.args.budget (omega arith) fits

pub returns-else-budget-gt0 : goal.returns-else-budget-gt0
returns-else-budget-gt0 c d rows n driving fits =
    let none : c.args.budget ≡ 0 = omega arith in
    subst (λ b. Done d rows rows n driving idle_does b More) (sym none) (done_no_turn d n driving rows idle_does (λ i held s. refl) fits)
