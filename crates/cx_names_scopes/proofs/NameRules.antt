-- Lemmas by the names that the code gives them.
use Rattle.cx_names_scopes.proofs.NameLemmas.{same_name-turned, own_name_is}
use Rattle.cx_numbering.proofs.NamesLemmas.{same_name-pointwise}

pub ruleset equal_names = (same_name-pointwise, same_name-turned)

pub ruleset own_names = (own_name_is)
