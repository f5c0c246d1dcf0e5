use Rattle.std.proofs.Common.{◌≡◌, drop}
use Rattle.cx_design.specs.PlainForms.{plain_statements}
use Rattle.cx_flat.specs.Levels.{all_fit}
use Rattle.cx_flat.proofs.levels.+statement.Given as goal

-- all so far fit, so all do where those that are left do
abbrev pub invariant-all_are_within-loop-statement : goal.invariant-all_are_within-loop-statement
invariant-all_are_within-loop-statement l = all_fit l.levels (plain_statements (drop l.statement-index l.parts)) ≡ all_fit l.levels (plain_statements l.parts)
