use Rattle.std.proofs.Common.{◌≡◌, List, length}
use Rattle.cx_meaning.specs.Instances.{Instance}
use Rattle.cx_eval.specs.declared.sources.Operator.{Operator}
use Rattle.cx_eval.specs.Sources.{AreKnownPorts, AreSeenBy, IsPartGroup}
use Rattle.cx_eval.proofs.closing.port_sources.Given as goal

-- the ports so far
abbrev pub invariant-loop-port : goal.invariant-loop-port
invariant-loop-port l = record {
  sized : length l.sources.items ≡ l.port;
  each : (i : Instance) (operators : List Operator) → IsPartGroup i l.of → AreKnownPorts i l.of.active.now operators l.known → AreSeenBy i l.of.active.now operators l.cell l.sources.items;
}
