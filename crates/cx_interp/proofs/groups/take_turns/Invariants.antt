use Rattle.cx_turns.specs.Machines.{design_of, rows_of, IsAt}
use Rattle.cx_interp.specs.Counts.{KeepsShape, plain_counts}
use Rattle.cx_interp.proofs.LoopLemmas.{AreGoing}
use Rattle.cx_interp.proofs.groups.take_turns.Given as goal

abbrev pub invariant-loop-turn : goal.invariant-loop-turn
invariant-loop-turn l =
    IsAt l.plan l.machine
    × AreGoing (design_of l.plan) (rows_of l.initial.machine) (rows_of l.machine) (plain_counts l.initial.counts) (plain_counts l.counts) l.instance l.group l.budget l.turn
    × KeepsShape (plain_counts l.initial.counts) (plain_counts l.counts)
