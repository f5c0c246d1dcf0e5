use Rattle.cx_rules.proofs.FoundLemmas.{seen_solves}
use Rattle.cx_rules.proofs.laws.found_solves_steps.Goals as goal

pub returns : goal.returns
returns c = λ i held act s p acyclic deeper. seen_solves i held act s acyclic deeper p
