use Rattle.cx_rewrites.proofs.CellLemmas.{cycle_carries, cycle_follows, cell_left}
use Rattle.cx_rewrites.proofs.leaf_laws.cycles_carry.Goals as goal

pub returns-clause-ends : goal.returns-clause-ends
returns-clause-ends w c = λ pace faults one i j held twin_held act more loose each leaves.
    cycle_carries pace w.W.Rewriting.stands faults one i j held twin_held act more loose each leaves

pub returns-clause-follows : goal.returns-clause-follows
returns-clause-follows w c = λ pace faults one i j held twin_held act more follow leaves.
    cycle_follows pace w.W.Rewriting.stands faults one i j held twin_held act more follow leaves

pub returns-clause-left : goal.returns-clause-left
returns-clause-left w c = λ i j held twin_held act more s z after n e alike goes. cell_left i j held twin_held act more s z n e alike after goes
