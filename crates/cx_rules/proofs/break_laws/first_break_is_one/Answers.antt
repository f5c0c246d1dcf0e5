use Rattle.cx_rules.proofs.OneBreak.{one_break, one_break_name}
use Rattle.cx_rules.proofs.break_laws.first_break_is_one.Goals as goal

pub returns-clause-rule : goal.returns-clause-rule
returns-clause-rule c d a b first other = (one_break d a b first other).0

pub returns-clause-place : goal.returns-clause-place
returns-clause-place c d a b first other = (one_break d a b first other).1

pub returns-clause-name : goal.returns-clause-name
returns-clause-name c d a b placed first other = one_break_name d a b placed first other
