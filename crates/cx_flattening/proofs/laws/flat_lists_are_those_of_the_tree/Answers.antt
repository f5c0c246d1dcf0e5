use Rattle.cx_flattening.proofs.FlatLists.{island_length, island_acts}
use Rattle.cx_flattening.proofs.laws.flat_lists_are_those_of_the_tree.Goals as goal

pub returns-clause-length : goal.returns-clause-length
returns-clause-length c i form fair controlled static = island_length i form fair controlled static

pub returns-clause-acts : goal.returns-clause-acts
returns-clause-acts c i form h k t fair controlled static agree inputs once = island_acts i form h k t fair controlled static agree inputs once
