use Rattle.cx_emitted.proofs.WrittenBytes.{texts_small}
use Rattle.cx_emitted.proofs.byte_laws.texts_are_small.Goals as goal

pub returns : goal.returns
returns c = texts_small
