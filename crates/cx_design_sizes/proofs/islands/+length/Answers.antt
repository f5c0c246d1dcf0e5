use Rattle.std.proofs.Common.{refl, arith}
use Rattle.cx_design.specs.PlainForms.{plain_component, plain_statements}
use Rattle.cx_meaning.specs.Islands as plain
use Rattle.cx_design_sizes.proofs.Caps.{ended, ended_max}
use Rattle.cx_design_sizes.proofs.islands.+length.Goals as goal

pub max_length-returns : goal.max_length-returns
max_length-returns t c = ended_max (λ arms. plain.max_length (plain_component c.args.part.now) (plain_statements arms)) c.args.arms.now c.loop-statement.statement-index c.loop-statement.length refl (omega arith) c.loop-statement.invariant.1 c.loop-statement.invariant.0

pub sum_length-returns : goal.sum_length-returns
sum_length-returns t c = ended (λ parts. plain.sum_length (plain_component c.args.part.now) (plain_statements parts)) c.args.parts.now c.loop-statement.statement-index c.loop-statement.length refl (omega arith) c.loop-statement.invariant.1 c.loop-statement.invariant.0
