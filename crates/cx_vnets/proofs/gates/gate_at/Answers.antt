use Rattle.std.proofs.Common.{slice_get}
use Rattle.cx_vnets.proofs.GateLemmas.{gate_given}
use Rattle.cx_text.proofs.ListLaws.{read_at}
use Rattle.cx_vnets.proofs.gates.gate_at.Goals as goal

pub returns-in-Some : goal.returns-in-Some
returns-in-Some c =
    gate_given (slice_get c.args.gates.now c.args.net) c.in-Some.gate.now (read_at c.args.gates.now c.args.net c.in-Some.gate.now c.in-Some.ensures.lookup.3.0 c.in-Some.ensures.lookup.1)
