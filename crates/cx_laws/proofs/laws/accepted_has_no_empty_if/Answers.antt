use Rattle.cx_laws.proofs.LengthLemmas.{no_empty_if}
use Rattle.cx_laws.proofs.laws.accepted_has_no_empty_if.Goals as goal

pub returns : goal.returns
returns c = λ d path v flat accepted stands. no_empty_if d flat accepted v path stands
