use Rattle.cx_compiler.proofs.RunDesigns.{text_can_be_flattened}
use Rattle.cx_compiler.proofs.flat_laws.accepted_texts_can_be_flattened.Goals as goal

pub returns : goal.returns
returns c = text_can_be_flattened
