use Rattle.std.proofs.Common.{is_some, sym, ap}
use Rattle.cx_names_scopes.proofs.PrimitiveLemmas.{primitive_absent}
use Rattle.cx_names_parts.proofs.components.is_primitive.Goals as goal

pub returns-in-None : goal.returns-in-None
returns-in-None c = sym (ap is_some (primitive_absent c.args.name.now (rw c.bytes.ensures.value at c.in-None.ensures.none)))
