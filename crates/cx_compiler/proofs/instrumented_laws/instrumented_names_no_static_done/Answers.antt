use Rattle.cx_compiler.proofs.KeptEnds.{none_names_done}
use Rattle.cx_compiler.proofs.instrumented_laws.instrumented_names_no_static_done.Goals as goal

pub returns : goal.returns
returns c = none_names_done
