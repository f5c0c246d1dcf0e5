use Rattle.std.proofs.Common.{◌≡◌, drop}
use Rattle.cx_meaning.specs.Control.{groups_in_all}
use Rattle.cx_design.specs.PlainForms.{plain_statements}
use Rattle.cx_limits.specs.Inners.{set_all}
use Rattle.cx_limits.proofs.needed.+groups.Given as goal

-- with the flags of the statements that are left all are set
abbrev pub invariant-flag_all-loop-statement : goal.invariant-flag_all-loop-statement
invariant-flag_all-loop-statement l = set_all l.flags (groups_in_all (plain_statements (drop l.statement-index l.parts))) ≡ set_all l.initial.flags (groups_in_all (plain_statements l.parts))
