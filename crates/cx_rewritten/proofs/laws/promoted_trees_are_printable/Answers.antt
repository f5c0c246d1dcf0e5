use Rattle.cx_rewritten.proofs.PromotedLemmas.{promoted_keeps_order, promoted_printable}
use Rattle.cx_rewritten.proofs.laws.promoted_trees_are_printable.Goals as goal

pub returns-clause-printable : goal.returns-clause-printable
returns-clause-printable c = promoted_printable

pub returns-clause-order : goal.returns-clause-order
returns-clause-order c = promoted_keeps_order
