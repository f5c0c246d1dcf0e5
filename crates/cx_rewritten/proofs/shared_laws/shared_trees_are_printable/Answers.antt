use Rattle.cx_rewritten.proofs.DesignShared.{targets-shared}
use Rattle.cx_rewritten.proofs.PrintableShared.{printable-shared}
use Rattle.cx_rewritten.proofs.shared_laws.shared_trees_are_printable.Goals as goal

pub returns-clause-printable : goal.returns-clause-printable
returns-clause-printable c = λ tree printable. printable-shared tree printable

pub returns-clause-targets : goal.returns-clause-targets
returns-clause-targets c = λ tree none targets. targets-shared tree none targets
