use Rattle.cx_meaning.proofs.SightsLemmas.{one_sight}
use Rattle.cx_meaning.proofs.laws.sees_one_thing.Goals as goal

pub returns : goal.returns
returns c = λ i held act s p x y a b. one_sight a b
