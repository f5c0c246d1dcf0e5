use Rattle.std.proofs.Common.{refl, arith}
use Rattle.cx_design.specs.PlainForms.{plain_component, plain_statements}
use Rattle.cx_rules.specs.StaticControl as control
use Rattle.cx_design_sizes.proofs.Caps.{ended}
use Rattle.cx_design_sizes.proofs.islands.+occurrences.Goals as goal

pub occurrences_in-returns : goal.occurrences_in-returns
occurrences_in-returns t c = ended (λ parts. control.occurrences_in (plain_component c.args.part.now) (plain_statements parts)) c.args.parts.now c.loop-statement.statement-index c.loop-statement.count refl (omega arith) c.loop-statement.invariant.1 c.loop-statement.invariant.0
