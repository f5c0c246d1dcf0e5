use Rattle.std.proofs.Common.{◌≤◌, ◌-◌, ◌^◌, ◌≡◌, ◌+◌, drop}
use Rattle.cx_design.specs.PlainForms.{plain_component, plain_statements}
use Rattle.cx_rules.specs.StaticControl as control
use Rattle.cx_design_sizes.specs.Capped.{capped}
use Rattle.cx_design_sizes.proofs.islands.+occurrences.Given as goal

abbrev pub invariant-occurrences_in-loop-statement : goal.invariant-occurrences_in-loop-statement
invariant-occurrences_in-loop-statement l = (capped (l.count + control.occurrences_in (plain_component l.part) (plain_statements (drop l.statement-index l.parts))) ≡ capped (control.occurrences_in (plain_component l.part) (plain_statements l.parts))) × (l.count ≤ 2 ^ 64 - 1)
