use Rattle.std.proofs.Common.{refl, arith}
use Rattle.cx_design.specs.PlainForms.{plain_component, plain_statements}
use Rattle.cx_rules.specs.Invokes as invokes
use Rattle.cx_design_sizes.proofs.Caps.{ended, ended_max}
use Rattle.cx_limits.proofs.lasts.+length.Goals as goal

pub max_lasts-returns : goal.max_lasts-returns
max_lasts-returns t c = ended_max (λ arms. invokes.max_lasts (plain_component c.args.part.now) (plain_statements arms)) c.args.arms.now c.loop-statement.statement-index c.loop-statement.length refl (omega arith) c.loop-statement.invariant.1 c.loop-statement.invariant.0

pub sum_lasts-returns : goal.sum_lasts-returns
sum_lasts-returns t c = ended (λ parts. invokes.sum_lasts (plain_component c.args.part.now) (plain_statements parts)) c.args.parts.now c.loop-statement.statement-index c.loop-statement.length refl (omega arith) c.loop-statement.invariant.1 c.loop-statement.invariant.0
