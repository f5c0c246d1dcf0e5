use Rattle.cx_compiler.proofs.KeptParts.{keeps_words}
use Rattle.cx_compiler.proofs.instrumented_laws.instrumented_keeps_words.Goals as goal

pub returns : goal.returns
returns c = keeps_words
