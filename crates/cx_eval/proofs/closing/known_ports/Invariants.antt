use Rattle.cx_meaning.specs.Instances.{Instance}
use Rattle.cx_eval.specs.Sources.{AreKnownPorts, AreOperators, IsPartGroup}
use Rattle.cx_eval.proofs.closing.known_ports.Given as goal

-- the ports so far
abbrev pub invariant-loop-port : goal.invariant-loop-port
invariant-loop-port l = record {
  operators : (i : Instance) → IsPartGroup i l.of → AreOperators i l.of.active.now l.operators.items;
  known : (i : Instance) → IsPartGroup i l.of → AreKnownPorts i l.of.active.now l.operators.items l.known;
}
