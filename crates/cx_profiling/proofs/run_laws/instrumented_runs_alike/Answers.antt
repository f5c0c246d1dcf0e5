use Rattle.cx_profiling.proofs.AlikeLemmas.{runs_alike}
use Rattle.cx_profiling.proofs.run_laws.instrumented_runs_alike.Goals as goal

pub returns : goal.returns
returns c = runs_alike
