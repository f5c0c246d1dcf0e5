use Rattle.cx_profiling.proofs.AcceptedStages.{accepted_kept}
use Rattle.cx_profiling.proofs.design_laws.instrumented_is_accepted.Goals as goal

pub returns : goal.returns
returns c = accepted_kept
