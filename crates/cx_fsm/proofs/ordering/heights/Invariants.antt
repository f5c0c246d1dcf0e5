use Rattle.cx_static.specs.PlainLowered.{plain_lowereds}
use Rattle.cx_fsm.specs.Rounds.{HasHeights}
use Rattle.cx_fsm.proofs.ordering.heights.Given as goal

-- so many levels are told
abbrev pub invariant-loop-levels : goal.invariant-loop-levels
invariant-loop-levels l = HasHeights (plain_lowereds l.design) l.levels l.heights.items
