use Rattle.cx_rules.proofs.CircleLemmas.{instance_acyclic}
use Rattle.cx_rules.proofs.laws.accepted_is_acyclic.Goals as goal

pub returns : goal.returns
returns c = λ d path accepted. instance_acyclic d accepted path
