use Rattle.cx_eval_cycle.proofs.RoomLemmas.{HaveFirst}
use Rattle.cx_eval_cycle.proofs.rooms.rooms_for.Given as goal

-- the cells so far
abbrev pub invariant-loop-cell : goal.invariant-loop-cell
invariant-loop-cell l = HaveFirst l.cells l.cell l.rooms.items
