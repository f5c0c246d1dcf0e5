use Rattle.cx_compiler.proofs.PlainNames.{are_plain_names}
use Rattle.cx_compiler.proofs.flat_laws.texts_have_plain_names.Goals as goal

pub returns : goal.returns
returns c = are_plain_names
