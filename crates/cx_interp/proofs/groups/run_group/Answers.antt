use Rattle.std.proofs.Common.{◌∙◌, sym, subst}
use Rattle.cx_meaning.specs.Instances.{instance_at, tree_of}
use Rattle.cx_eval_cycle.specs.Passes.{listed_in}
use Rattle.cx_turns.specs.Groups.{group_driving}
use Rattle.cx_turns.specs.Machines.{design_of, rows_of}
use Rattle.cx_turns.specs.Rooms.{HasRoom}
use Rattle.cx_turns.proofs.RestLemmas.{rows_at}
use Rattle.cx_interp.specs.Doings.{turns_do}
use Rattle.cx_interp.proofs.LoopLemmas.{done_rested}
use Rattle.cx_interp.proofs.groups.run_group.Goals as goal

pub returns-clause-machine : goal.returns-clause-machine
returns-clause-machine c = record {
  evaluator = c.rest.ensures.evaluator ∙ c.take_turns-answer.ensures.machine.evaluator;
  state = c.rest.ensures.rested.fits;
  room = subst (λ r. HasRoom (design_of c.args.plan.now) r) (sym c.rest.ensures.room) c.take_turns-answer.ensures.machine.room;
}

pub returns-clause-done : goal.returns-clause-done
returns-clause-done c =
    done_rested (design_of c.args.plan.now) c.args.instance (rows_of c.args.machine.now) (rows_of c.take_turns-answer.new.machine) (rows_of c.rest.new.machine) (group_driving c.args.group) (turns_do c.args.group) c.args.budget c.take_turns-answer.result
    (listed_in c.args.cells.now) (λ path k number off. sym (c.requires.listed path k number) ∙ off)
    (λ path s. c.idle_settles.ensures (instance_at (tree_of (design_of c.args.plan.now)) path) s (rows_at (tree_of (design_of c.args.plan.now)) path (c.designs_keep_idle.ensures (design_of c.args.plan.now))))
    c.take_turns-answer.ensures.paused c.rest.ensures.rested

pub returns-clause-counted : goal.returns-clause-counted
returns-clause-counted c = c.take_turns-answer.ensures.counted
