use Rattle.cx_compiler.proofs.KeptNames.{plain_names_kept}
use Rattle.cx_compiler.proofs.instrumented_laws.instrumented_has_plain_names.Goals as goal

pub returns : goal.returns
returns c = plain_names_kept
