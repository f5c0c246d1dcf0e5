use Rattle.std.proofs.Common.{refl, ◌∙◌, sym, subst, arith}
use Rattle.cx_turns.specs.Machines.{design_of, rows_of}
use Rattle.cx_turns.specs.Rooms.{HasRoom}
use Rattle.cx_interp.specs.Counts.{plain_counts}
use Rattle.cx_interp.specs.Counted.{turns_count_of}
use Rattle.cx_interp.proofs.GrowthLemmas.{counted_grows, counted_stops}
use Rattle.cx_interp.proofs.LoopLemmas.{going_start, going_on, going_counts, going_ends, going_faults, going_more}
use Rattle.cx_interp.proofs.groups.take_turns.Goals as goal

pub loop-turn-init : goal.loop-turn-init
loop-turn-init c = (c.requires.machine, going_start (design_of c.args.plan.now) c.args.instance c.args.group (rows_of c.args.machine.now) (plain_counts c.args.counts.now) c.args.budget, refl)

pub loop-turn-preserved : goal.loop-turn-preserved
loop-turn-preserved c = (
  record {
    evaluator = c.in-Goes.ensures.evaluator ∙ c.loop-turn.invariant.0.evaluator;
    state = c.in-Goes.ensures.taken.fits;
    room = subst (λ r. HasRoom (design_of c.args.plan.now) r) (sym c.in-Goes.ensures.room) c.loop-turn.invariant.0.room;
  },
  going_on (design_of c.args.plan.now) c.args.instance c.args.group (rows_of c.args.machine.now) (rows_of c.loop-turn.machine) (rows_of c.take_turn.new.machine) (plain_counts c.args.counts.now) (plain_counts c.loop-turn.counts) c.args.budget c.loop-turn.turn c.loop-turn-test.true
      (plain_counts c.add.new.self) c.loop-turn.invariant.2 c.add.ensures c.loop-turn.invariant.1 c.in-Goes.ensures.taken,
  c.add.ensures.shape ∙ c.loop-turn.invariant.2,
)

pub returns-in-Ends-clause-machine : goal.returns-in-Ends-clause-machine
returns-in-Ends-clause-machine c = record {
  evaluator = c.in-Ends.ensures.evaluator ∙ c.loop-turn.invariant.0.evaluator;
  state = c.in-Ends.ensures.taken.fits;
  room = subst (λ r. HasRoom (design_of c.args.plan.now) r) (sym c.in-Ends.ensures.room) c.loop-turn.invariant.0.room;
}

pub returns-in-Ends-clause-paused : goal.returns-in-Ends-clause-paused
returns-in-Ends-clause-paused c =
    going_ends (design_of c.args.plan.now) c.args.instance c.args.group (rows_of c.args.machine.now) (rows_of c.loop-turn.machine) (rows_of c.take_turn.new.machine) (plain_counts c.args.counts.now) (plain_counts c.loop-turn.counts) c.args.budget c.loop-turn.turn c.loop-turn-test.true
    c.loop-turn.invariant.1 c.in-Ends.ensures.taken

pub returns-in-Faults-clause-machine : goal.returns-in-Faults-clause-machine
returns-in-Faults-clause-machine c = record {
  evaluator = c.in-Faults.ensures.evaluator ∙ c.loop-turn.invariant.0.evaluator;
  state = c.in-Faults.ensures.taken.fits;
  room = subst (λ r. HasRoom (design_of c.args.plan.now) r) (sym c.in-Faults.ensures.room) c.loop-turn.invariant.0.room;
}

pub returns-in-Faults-clause-paused : goal.returns-in-Faults-clause-paused
returns-in-Faults-clause-paused c =
    going_faults (design_of c.args.plan.now) c.args.instance c.args.group (rows_of c.args.machine.now) (rows_of c.loop-turn.machine) (rows_of c.take_turn.new.machine) (plain_counts c.args.counts.now) (plain_counts c.loop-turn.counts) c.args.budget c.loop-turn.turn c.loop-turn-test.true
    c.in-Faults.fault c.loop-turn.invariant.1 c.in-Faults.ensures.taken

pub returns-clause-machine : goal.returns-clause-machine
returns-clause-machine c = c.loop-turn.invariant.0

pub returns-clause-paused : goal.returns-clause-paused
returns-clause-paused c =
    going_more (design_of c.args.plan.now) c.args.instance c.args.group (rows_of c.args.machine.now) (rows_of c.loop-turn.machine) (plain_counts c.args.counts.now) (plain_counts c.loop-turn.counts) c.args.budget c.loop-turn.turn (omega arith) c.loop-turn.invariant.0.state c.loop-turn.invariant.1

pub returns-in-Ends-clause-counted : goal.returns-in-Ends-clause-counted
returns-in-Ends-clause-counted c =
    counted_grows (design_of c.args.plan.now) c.args.instance (rows_of c.args.machine.now) (plain_counts c.args.counts.now) (plain_counts c.loop-turn.counts) (turns_count_of c.args.group) c.args.budget _ c.loop-turn.invariant.2
    (going_counts (design_of c.args.plan.now) c.args.instance c.args.group (rows_of c.args.machine.now) (rows_of c.loop-turn.machine) (rows_of c.take_turn.new.machine) (plain_counts c.args.counts.now) (plain_counts c.loop-turn.counts) c.args.budget c.loop-turn.turn
    c.loop-turn-test.true c.loop-turn.invariant.1 c.in-Ends.ensures.taken)

pub returns-in-Faults-clause-counted : goal.returns-in-Faults-clause-counted
returns-in-Faults-clause-counted c =
    counted_stops (design_of c.args.plan.now) c.args.instance (rows_of c.args.machine.now) (plain_counts c.args.counts.now) (plain_counts c.loop-turn.counts) (turns_count_of c.args.group) c.args.budget _ tt c.loop-turn.invariant.2

pub returns-clause-counted : goal.returns-clause-counted
returns-clause-counted c =
    counted_stops (design_of c.args.plan.now) c.args.instance (rows_of c.args.machine.now) (plain_counts c.args.counts.now) (plain_counts c.loop-turn.counts) (turns_count_of c.args.group) c.args.budget _ tt c.loop-turn.invariant.2
