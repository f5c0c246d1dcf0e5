use Rattle.cx_rules.proofs.FoundLemmas.{seen_found}
use Rattle.cx_rules.proofs.laws.sees_what_is_found.Goals as goal

pub returns : goal.returns
returns c = λ i held act s p acyclic deeper. seen_found i held act s acyclic deeper p
