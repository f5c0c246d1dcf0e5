use Rattle.cx_flattening.proofs.FlatRuns.{control_as}
use Rattle.cx_flattening.proofs.laws.flat_runs_are_those_of_the_tree.Goals as goal

pub returns : goal.returns
returns c i flat held s z n asks stands settled = control_as i flat asks held s z n stands settled
