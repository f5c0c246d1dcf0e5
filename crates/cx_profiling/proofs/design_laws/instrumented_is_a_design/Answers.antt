use Rattle.cx_profiling.proofs.DesignLemmas.{instrumented_keeps}
use Rattle.cx_profiling.proofs.design_laws.instrumented_is_a_design.Goals as goal

pub returns : goal.returns
returns c = instrumented_keeps
