use Rattle.cx_rules.proofs.CircleLemmas.{instance_group}
use Rattle.cx_rules.proofs.laws.accepted_group_is_acyclic.Goals as goal

pub returns : goal.returns
returns c = λ d path g accepted h. instance_group d accepted path g h
