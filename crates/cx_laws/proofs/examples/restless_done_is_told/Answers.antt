use Rattle.cx_laws.proofs.ExampleLemmas.{restless_told}
use Rattle.cx_laws.proofs.examples.restless_done_is_told.Goals as goal

pub returns : goal.returns
returns c = restless_told
