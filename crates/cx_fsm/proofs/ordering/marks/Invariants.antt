use Rattle.cx_static.specs.PlainLowered.{plain_lowereds}
use Rattle.cx_fsm.specs.Rounds.{MarksReached}
use Rattle.cx_fsm.proofs.ordering.marks.Given as goal

-- so many levels are marked
abbrev pub invariant-loop : goal.invariant-loop
invariant-loop l = MarksReached (plain_lowereds l.design) l.counter l.marks.items
