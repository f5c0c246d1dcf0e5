use Rattle.std.proofs.Common.{sym, subst}
use Rattle.std.proofs.lemmas.Option.{IfSome_then}
use Rattle.cx_vnets.specs.Gates.{IsGate}
use Rattle.cx_vnets.specs.Watches.{IsNet}
use Rattle.cx_vnets.proofs.gates.code_gate.Goals as goal

pub returns-in-Binary : goal.returns-in-Binary
returns-in-Binary c =
    IfSome_then c.operand_gate.result c.operand_gate.ensures (λ k h. subst (λ x. IsGate x k) (sym c.in-Binary.is) (h.0, subst (λ x. IsNet x k) c.deref.ensures h.1))
