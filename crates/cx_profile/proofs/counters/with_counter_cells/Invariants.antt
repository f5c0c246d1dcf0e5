use Rattle.std.proofs.Common.{◌≡◌, ◌++◌, map}
use Rattle.cx_design.specs.PlainForms.{plain_cell}
use Rattle.cx_profiling.specs.Instrumented.{counter_cells}
use Rattle.cx_profile.proofs.counters.with_counter_cells.Given as goal

-- the cells of so many counters stand behind the others
abbrev pub invariant-loop-counter : goal.invariant-loop-counter
invariant-loop-counter l = map plain_cell l.all.items ≡ map plain_cell l.fn.cells.items ++ counter_cells l.place l.names 0 l.counter
