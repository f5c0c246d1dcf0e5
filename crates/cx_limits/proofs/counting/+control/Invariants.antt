use Rattle.cx_design.specs.PlainForms.{plain_component}
use Rattle.cx_design_sizes.specs.StatementSizes.{context_of}
use Rattle.cx_limits.specs.Rows.{plain_inners}
use Rattle.cx_limits.proofs.CountingLemmas.{IsCountedTo}
use Rattle.cx_limits.proofs.counting.+control.Given as goal

abbrev pub invariant-all_counts-loop-statement : goal.invariant-all_counts-loop-statement
invariant-all_counts-loop-statement l = IsCountedTo (plain_component l.part) (plain_inners l.below) (context_of l.context) l.statements l.statement-index l.counts
