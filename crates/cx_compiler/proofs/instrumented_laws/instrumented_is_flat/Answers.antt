use Rattle.cx_profiling.proofs.FlatKept.{instrumented_flat}
use Rattle.cx_compiler.proofs.instrumented_laws.instrumented_is_flat.Goals as goal

pub returns : goal.returns
returns c = λ d design flat. instrumented_flat d flat
