use Rattle.cx_laws.proofs.IslandLemmas.{active_is}
use Rattle.cx_laws.proofs.laws.timers_give_the_active_groups.Goals as goal

pub returns : goal.returns
returns c = λ part form h t l. active_is h t part form l
