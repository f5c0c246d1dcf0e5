use Rattle.cx_state.proofs.ReadLemmas.{rows_read}
use Rattle.cx_state.proofs.alike_laws.rows_stand.Goals as goal

pub returns : goal.returns
returns c = rows_read
