use Rattle.std.proofs.Common.{◌≤◌, ◌-◌, ◌^◌, ◌≡◌, ◌+◌, drop}
use Rattle.cx_design.specs.PlainForms.{plain_component, plain_statements}
use Rattle.cx_rules.specs.Items.{visit_all}
use Rattle.cx_design_sizes.specs.Capped.{capped}
use Rattle.cx_design_sizes.specs.StatementSizes.{context_of, statements_size}
use Rattle.cx_design_sizes.proofs.sizes.+statement.Given as goal

abbrev pub invariant-all_size-loop-statement : goal.invariant-all_size-loop-statement
invariant-all_size-loop-statement l = (capped (l.size + statements_size (plain_component l.part) (visit_all (context_of l.context) (plain_statements (drop l.statement-index l.statements)))) ≡ capped (statements_size (plain_component l.part) (visit_all (context_of l.context) (plain_statements l.statements)))) × (l.size ≤ 2 ^ 64 - 1)
