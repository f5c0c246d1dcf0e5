use Rattle.cx_eval_cycle.proofs.InertLemmas.{looks_at_none, outcome_same}
use Rattle.cx_eval_cycle.proofs.laws.cells_without_enabling_stay.Goals as goal

pub returns-clause-stays : goal.returns-clause-stays
returns-clause-stays c = λ look cell p state none. outcome_same p none look cell state

pub returns-clause-unseen : goal.returns-clause-unseen
returns-clause-unseen c = λ p state inputs port none. looks_at_none p none state inputs port
