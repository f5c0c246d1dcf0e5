use Rattle.cx_shape_state.proofs.StateLemmas.{are_breaks}
use Rattle.cx_shape_state.proofs.rule_laws.list_has_the_breaks.Goals as goal

pub returns : goal.returns
returns c = are_breaks
