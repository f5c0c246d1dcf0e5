use Rattle.std.proofs.Common.{refl, arith}
use Rattle.cx_design.specs.PlainForms.{plain_statements}
use Rattle.cx_interp_islands.specs.Rooms as plain
use Rattle.cx_design_sizes.proofs.Caps.{ended}
use Rattle.cx_interp_islands.proofs.counts.+groups.Goals as goal

pub groups_in-returns : goal.groups_in-returns
groups_in-returns t c = ended (λ parts. plain.groups_in (plain_statements parts)) c.args.parts.now c.loop-statement.statement-index c.loop-statement.count refl (omega arith) c.loop-statement.invariant.1 c.loop-statement.invariant.0
