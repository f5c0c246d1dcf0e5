use Rattle.cx_laws.proofs.StartLemmas.{design_starts_settled}
use Rattle.cx_laws.proofs.laws.loaded_start_is_settled.Goals as goal

pub returns : goal.returns
returns c = λ d words. design_starts_settled d words
