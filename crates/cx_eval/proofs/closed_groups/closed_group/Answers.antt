use Rattle.cx_eval.proofs.SourceLemmas.{known_grown}
use Rattle.cx_eval.proofs.closed_groups.closed_group.Goals as goal

pub returns-in-Some : goal.returns-in-Some
returns-in-Some c = record {
  value = λ i h.
      let old = c.known_ports.new.operators.items in
      let new = c.add_tests.new.operators.items in
      let known = c.in_ok-known.ensures.known i h in
      record {
        operators = c.in_ok-add_tests.ensures.operators i h known (c.in_ok-known.ensures.operators i h);
        cells = (rw c.in-Some.is at c.in_ok-cells.ensures.value) i new h (known_grown i c.args.of.now.active.now old new c.in_ok-add_tests.ensures.grown c.in_ok-known.known known);
      };
}
