use Rattle.cx_eval_cycle.proofs.EndLemmas.{all_cycle}
use Rattle.cx_eval_cycle.proofs.laws.other_cells_stay.Goals as goal

pub returns : goal.returns
returns c = λ look cells stepping child s are. all_cycle look cells stepping child s are
