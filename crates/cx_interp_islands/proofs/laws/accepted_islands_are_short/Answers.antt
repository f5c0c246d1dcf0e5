use Rattle.cx_interp_islands.proofs.ShortLemmas.{short_island}
use Rattle.cx_interp_islands.proofs.laws.accepted_islands_are_short.Goals as goal

pub returns : goal.returns
returns c = λ d path v flat accepted stands island. short_island d flat accepted v path stands island
