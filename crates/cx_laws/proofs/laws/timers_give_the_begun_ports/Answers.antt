use Rattle.cx_laws.proofs.IslandLemmas.{begun_is}
use Rattle.cx_laws.proofs.laws.timers_give_the_begun_ports.Goals as goal

pub returns : goal.returns
returns c = λ part form h t fine l. begun_is h t part form fine l
