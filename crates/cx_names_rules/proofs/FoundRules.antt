-- Lemmas by the names that the code gives them.
use Rattle.std.proofs.lemmas.Grind.{flat_map-append}
use Rattle.cx_names_rules.proofs.FoundLemmas.{first_of-append}

pub ruleset in_turn = (first_of-append)

pub ruleset each_in_turn = (first_of-append, flat_map-append)
