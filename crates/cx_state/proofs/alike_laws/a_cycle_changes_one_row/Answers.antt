use Rattle.cx_state.proofs.ChangeLemmas.{cycle_changed}
use Rattle.cx_state.proofs.alike_laws.a_cycle_changes_one_row.Goals as goal

pub returns : goal.returns
returns c = cycle_changed
