use Rattle.cx_meaning.specs.Instances.{Instance}
use Rattle.cx_eval.specs.Sources.{AreKnownPorts, AreOperators, HaveGrown, IsPartGroup}
use Rattle.cx_eval.proofs.closing.add_outputs.Given as goal

-- the operators so far stand behind those before
abbrev pub invariant-loop-port : goal.invariant-loop-port
invariant-loop-port l = record {
  grown : HaveGrown l.initial.operators.items l.operators.items;
  operators : (i : Instance) → IsPartGroup i l.of → AreKnownPorts i l.of.active.now l.initial.operators.items l.known → AreOperators i l.of.active.now l.initial.operators.items → AreOperators i l.of.active.now l.operators.items;
}
