use Rattle.cx_velab.proofs.DrivenLemmas.{ties_right, givens_right}
use Rattle.cx_velab.proofs.laws.drivers_are_right.Goals as goal

pub returns-clause-ties : goal.returns-clause-ties
returns-clause-ties c = ties_right

pub returns-clause-givens : goal.returns-clause-givens
returns-clause-givens c = givens_right
