use Rattle.cx_laws.proofs.ExampleLemmas.{race_told}
use Rattle.cx_laws.proofs.examples.race_is_told.Goals as goal

pub returns : goal.returns
returns c = race_told
