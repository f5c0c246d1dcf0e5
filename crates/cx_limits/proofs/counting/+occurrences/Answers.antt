use Rattle.std.proofs.Common.{refl, arith}
use Rattle.cx_design.specs.PlainForms.{plain_component, plain_statements}
use Rattle.cx_rules.specs.Counts as counts
use Rattle.cx_design_sizes.proofs.Caps.{ended}
use Rattle.cx_limits.specs.Rows.{plain_inners}
use Rattle.cx_limits.proofs.counting.+occurrences.Goals as goal

pub counted_in-returns : goal.counted_in-returns
counted_in-returns t c =
    ended (λ parts. counts.counted_in (plain_component c.args.part.now) (plain_inners c.args.below.now) (plain_statements parts)) c.args.parts.now c.loop-statement.statement-index
    c.loop-statement.count refl (omega arith) c.loop-statement.invariant.1 c.loop-statement.invariant.0
