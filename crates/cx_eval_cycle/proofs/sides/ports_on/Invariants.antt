use Rattle.std.proofs.Common.{length}
use Rattle.cx_prim.specs.Table.{row_of}
use Rattle.cx_eval_cycle.specs.Stepping.{on_side}
use Rattle.cx_eval_cycle.proofs.PortLemmas.{AreSoFar}
use Rattle.cx_eval_cycle.proofs.sides.ports_on.Given as goal

-- the numbers so far
abbrev pub invariant-loop-port : goal.invariant-loop-port
invariant-loop-port l = AreSoFar (on_side l.side (row_of l.primitive)) (length (row_of l.primitive).ports) l.numbers.items l.port
