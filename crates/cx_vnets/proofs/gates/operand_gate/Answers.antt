use Rattle.std.proofs.lemmas.Option.{IfSome_then}
use Rattle.cx_vnets.proofs.gates.operand_gate.Goals as goal

pub returns-in-And : goal.returns-in-And
returns-in-And c = IfSome_then c.net_of.result c.net_of.ensures (λ k h. (c.in-And.is, h))
