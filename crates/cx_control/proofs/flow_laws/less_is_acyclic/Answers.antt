use Rattle.cx_control.proofs.LeadsLemmas.{less_acyclic}
use Rattle.cx_control.proofs.flow_laws.less_is_acyclic.Goals as goal

pub returns : goal.returns
returns c = λ i act less acyclic has. less_acyclic less act has i acyclic
