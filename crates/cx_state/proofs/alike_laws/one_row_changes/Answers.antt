use Rattle.cx_state.proofs.ChangeLemmas.{changed}
use Rattle.cx_state.proofs.alike_laws.one_row_changes.Goals as goal

pub returns : goal.returns
returns c = changed
