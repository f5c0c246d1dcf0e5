use Rattle.cx_flattening.proofs.FlatIslands.{island_as}
use Rattle.cx_flattening.proofs.laws.flat_islands_are_those_of_the_tree.Goals as goal

pub returns : goal.returns
returns c i flat form held s z n its stands = island_as i flat form held its s z n stands
