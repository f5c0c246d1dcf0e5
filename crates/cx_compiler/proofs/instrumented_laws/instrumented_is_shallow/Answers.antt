use Rattle.cx_compiler.proofs.KeptParts.{is_shallow}
use Rattle.cx_compiler.proofs.instrumented_laws.instrumented_is_shallow.Goals as goal

pub returns : goal.returns
returns c = is_shallow
