use Rattle.cx_vnets.proofs.gates.is_shut.Goals as goal

pub returns-in-Some : goal.returns-in-Some
returns-in-Some c = λ e. record {
  gate = c.in-Some.gate;
  has = c.in-Some.ensures;
  other = (c.is_shut_gate.ensures e).0;
  known = (c.is_shut_gate.ensures e).1;
}
