use Rattle.cx_compiler.proofs.KeptParts.{keeps_guards}
use Rattle.cx_compiler.proofs.instrumented_laws.instrumented_keeps_guards.Goals as goal

pub returns : goal.returns
returns c = keeps_guards
