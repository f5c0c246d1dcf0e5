use Rattle.cx_eval_cycle.proofs.EndLemmas.{listed_fault, listed_go}
use Rattle.cx_eval_cycle.proofs.laws.listed_cycles_end_so.Goals as goal

pub returns-clause-faults : goal.returns-clause-faults
returns-clause-faults c = λ look cells held child s listed fault ascending holds is. listed_fault look cells held child s holds listed ascending fault is

pub returns-clause-goes : goal.returns-clause-goes
returns-clause-goes c = λ look cells kept rooms old new child s listed ascending holds is are gathered steps. listed_go look cells old child s holds listed ascending kept rooms new is are gathered steps
