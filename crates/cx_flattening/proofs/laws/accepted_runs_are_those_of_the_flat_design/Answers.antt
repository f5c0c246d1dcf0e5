use Rattle.cx_flattening.proofs.AcceptedRuns.{accepted_runs}
use Rattle.cx_flattening.proofs.laws.accepted_runs_are_those_of_the_flat_design.Goals as goal

pub returns : goal.returns
returns c d words n design accepted undone = accepted_runs d design accepted undone words n
