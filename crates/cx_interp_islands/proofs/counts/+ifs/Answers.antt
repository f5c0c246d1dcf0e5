use Rattle.std.proofs.Common.{refl, arith}
use Rattle.cx_design.specs.PlainForms.{plain_statements}
use Rattle.cx_laws.specs.Samples as plain
use Rattle.cx_design_sizes.proofs.Caps.{ended}
use Rattle.cx_interp_islands.proofs.counts.+ifs.Goals as goal

pub ifs_in-returns : goal.ifs_in-returns
ifs_in-returns t c = ended (λ parts. plain.ifs_in (plain_statements parts)) c.args.parts.now c.loop-statement.statement-index c.loop-statement.count refl (omega arith) c.loop-statement.invariant.1 c.loop-statement.invariant.0
