use Rattle.std.proofs.Common.{sym, subst}
use Rattle.cx_eval.specs.Sources.{AreKnownPorts}
use Rattle.cx_eval.proofs.SourceLemmas.{known_grown}
use Rattle.cx_eval.proofs.closing.known_ports.Goals as goal
use Rattle.cx_eval.proofs.closing.known_ports.Goals.{in-Some, in_default}

pub loop-port-preserved : goal.loop-port-preserved
loop-port-preserved c = record {
  operators = λ i h. c.in_ok-source.ensures.operators i h (c.loop-port.invariant.known i h) (c.loop-port.invariant.operators i h);
  known = λ i h.
      let active = c.args.of.now.active.now in
      let old = c.loop-port.operators.items in
      let new = c.listed_source.new.operators.items in
      let grown : AreKnownPorts i active new c.loop-port.known = known_grown i active old new c.in_ok-source.ensures.grown c.loop-port.known (c.loop-port.invariant.known i h) in
      elim c.match-branch-3.branch [
        | in-Some w ↦ subst (AreKnownPorts i active new) (sym w.known-is)
            (w.know.ensures.known i active new ((rw w.in-Some.is at c.in_ok-source.ensures.seen) i h (c.loop-port.invariant.known i h)) grown)
        | in_default w ↦ subst (AreKnownPorts i active new) (sym w.known-is) grown
      ];
}
