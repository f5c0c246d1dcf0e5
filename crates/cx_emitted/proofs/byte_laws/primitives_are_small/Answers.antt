use Rattle.cx_emitted.proofs.SmallModules.{primitive_small}
use Rattle.cx_emitted.proofs.byte_laws.primitives_are_small.Goals as goal

pub returns : goal.returns
returns c = primitive_small
