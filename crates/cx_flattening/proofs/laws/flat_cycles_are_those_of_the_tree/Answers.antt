use Rattle.cx_flattening.proofs.FlatTops.{flat_seen, flat_cells_seen, flat_cycle}
use Rattle.cx_flattening.proofs.laws.flat_cycles_are_those_of_the_tree.Goals as goal

pub returns-clause-seen : goal.returns-clause-seen
returns-clause-seen c i flat held act more deeds s z p beside known = flat_seen i flat held act more deeds s z p beside known

pub returns-clause-cells : goal.returns-clause-cells
returns-clause-cells c i flat held act more deeds s z beside = flat_cells_seen i flat held act more deeds s z beside

pub returns-clause-cycle : goal.returns-clause-cycle
returns-clause-cycle c i flat held act more deeds s z beside = flat_cycle i flat held act more deeds s z beside
