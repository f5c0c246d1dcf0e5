use Rattle.std.proofs.Common.{◌≡◌, ◌++◌, drop}
use Rattle.cx_meaning.specs.Control.{groups_in_all}
use Rattle.cx_design.specs.PlainForms.{plain_statements}
use Rattle.cx_flat.proofs.enabled.+statement.Given as goal

-- the groups so far, and those of the statements that are left, are all
abbrev pub invariant-with_groups_in_all-loop-statement : goal.invariant-with_groups_in_all-loop-statement
invariant-with_groups_in_all-loop-statement l = l.all.items ++ groups_in_all (plain_statements (drop l.statement-index l.parts)) ≡ l.fn.front.items ++ groups_in_all (plain_statements l.parts)
