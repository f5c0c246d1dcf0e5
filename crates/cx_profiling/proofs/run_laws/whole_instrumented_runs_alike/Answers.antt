use Rattle.cx_profiling.proofs.WholeAlike.{whole_runs_alike}
use Rattle.cx_profiling.proofs.run_laws.whole_instrumented_runs_alike.Goals as goal

pub returns : goal.returns
returns c = whole_runs_alike
