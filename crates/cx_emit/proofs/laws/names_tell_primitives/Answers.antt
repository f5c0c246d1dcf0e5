use Rattle.cx_emit.proofs.PrimitiveNames.{primitive_name_tells}
use Rattle.cx_emit.proofs.laws.names_tell_primitives.Goals as goal

pub returns-clause-apart : goal.returns-clause-apart
returns-clause-apart c = primitive_name_tells
