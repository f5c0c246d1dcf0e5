use Rattle.std.proofs.Common.{ℕ, ◌<◌}
use Rattle.cx_cell_tests.specs.Seen.{IsSeenAt}
use Rattle.cx_cell_tests.proofs.conditions.are_seen.Given as goal

abbrev pub invariant-loop-n : goal.invariant-loop-n
invariant-loop-n g l = (m : ℕ) → m < l.n → IsSeenAt (g.C.Cycle.meaning l.cell) (g.C.Cycle.shown l.state) l.inputs m
