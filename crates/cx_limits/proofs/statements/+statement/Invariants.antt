use Rattle.std.proofs.Common.{◌≡◌, drop}
use Rattle.cx_design.specs.PlainForms.{plain_component, plain_statements}
use Rattle.cx_rules.specs.Items.{visit_all}
use Rattle.cx_design_sizes.specs.StatementSizes.{context_of}
use Rattle.cx_limits.specs.Rows.{plain_inners}
use Rattle.cx_limits.specs.Scan.{past_statements}
use Rattle.cx_limits.proofs.statements.+statement.Given as goal

abbrev pub invariant-past_all-loop-statement : goal.invariant-past_all-loop-statement
invariant-past_all-loop-statement l = past_statements (plain_component l.part) (plain_inners l.below) l.best (visit_all (context_of l.context) (plain_statements (drop l.statement-index l.statements))) ≡ past_statements (plain_component l.part) (plain_inners l.below) l.initial.best (visit_all (context_of l.context) (plain_statements l.statements))
