use Rattle.cx_names_rules.proofs.OrderLemmas.{first_of_all}
use Rattle.cx_names_rules.proofs.laws.kept_is_first.Goals as goal

pub returns : goal.returns
returns c = first_of_all
