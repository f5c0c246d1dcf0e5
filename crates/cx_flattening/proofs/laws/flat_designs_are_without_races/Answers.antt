use Rattle.cx_flattening.proofs.FlatRaces.{keeps_races}
use Rattle.cx_flattening.proofs.laws.flat_designs_are_without_races.Goals as goal

pub returns : goal.returns
returns c = record { races = λ d design accepted undone. keeps_races d design accepted undone }
