use Rattle.std.proofs.Common.{ℕ, ◌<◌}
use Rattle.cx_text.specs.Members.{In}
use Rattle.cx_graphs.specs.Graphs.{Bounded}
use Rattle.cx_graphs.proofs.grounding.numbers.Given as goal

abbrev pub invariant-loop-number : goal.invariant-loop-number
invariant-loop-number l = record { each : (n : ℕ) → n < l.number → In l.list.items n; few : Bounded l.number l.list.items }
