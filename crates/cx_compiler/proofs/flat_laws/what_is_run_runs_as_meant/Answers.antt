use Rattle.cx_compiler.proofs.RunnableLemmas.{runs_as_meant}
use Rattle.cx_compiler.proofs.flat_laws.what_is_run_runs_as_meant.Goals as goal

pub returns : goal.returns
returns c = runs_as_meant c.accepted_designs_keep_their_runs.ensures c.means_the_same_without.ensures
