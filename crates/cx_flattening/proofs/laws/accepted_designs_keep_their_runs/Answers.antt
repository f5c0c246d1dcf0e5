use Rattle.cx_flattening.proofs.KeptRuns.{keeps_runs}
use Rattle.cx_flattening.proofs.laws.accepted_designs_keep_their_runs.Goals as goal

pub returns : goal.returns
returns c d design accepted undone plain = keeps_runs d design accepted undone plain
