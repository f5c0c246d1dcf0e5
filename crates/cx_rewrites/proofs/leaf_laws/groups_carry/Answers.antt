use Rattle.cx_rewrites.proofs.TurnLemmas.{group_carries}
use Rattle.cx_rewrites.proofs.leaf_laws.groups_carry.Goals as goal

pub returns : goal.returns
returns w c = λ pace faults one i j held twin_held g h carries. group_carries pace w.W.Rewriting.stands faults i j held twin_held g h one carries
