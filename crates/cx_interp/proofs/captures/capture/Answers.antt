use Rattle.std.proofs.Common.{◌∙◌, sym, ap, subst}
use Rattle.cx_meaning.specs.Instances.{instance_at, tree_of}
use Rattle.cx_eval_cycle.specs.Passes.{IsAscending, listed_in}
use Rattle.cx_turns.specs.Groups.{ListWithin, group_driving}
use Rattle.cx_turns.specs.Machines.{design_of, rows_of}
use Rattle.cx_turns.specs.Rooms.{HasRoom}
use Rattle.cx_turns.proofs.GroupLemmas.{row_ascends, row_within}
use Rattle.cx_turns.proofs.RestLemmas.{rows_at}
use Rattle.cx_interp.specs.Callees.{capture_does}
use Rattle.cx_interp.proofs.LoopLemmas.{done_rested}
use Rattle.cx_interp.proofs.captures.capture.Goals as goal

pub rest-requires-clause-within : goal.rest-requires-clause-within
rest-requires-clause-within c =
    subst (λ xs. ListWithin (design_of c.args.plan.now) c.args.instance xs) (sym c.as_slice.ensures.value)
    (row_within (design_of c.args.plan.now) c.requires.plan.design c.args.plan.now.table.rows.items c.args.plan.now.table.children.items c.requires.plan.table c.args.instance c.args.group c.args.row.now c.requires.group c.requires.row)

pub rest-requires-clause-ascending : goal.rest-requires-clause-ascending
rest-requires-clause-ascending c =
    subst (λ xs. IsAscending xs) (sym c.as_slice.ensures.value) (row_ascends (design_of c.args.plan.now) c.args.instance c.args.group c.args.row.now c.requires.instance c.requires.row)

pub returns-clause-machine : goal.returns-clause-machine
returns-clause-machine c = record {
  evaluator = c.rest.ensures.evaluator ∙ c.capture_turn-answer.ensures.machine.evaluator;
  state = c.rest.ensures.rested.fits;
  room = subst (λ r. HasRoom (design_of c.args.plan.now) r) (sym c.rest.ensures.room) c.capture_turn-answer.ensures.machine.room;
}

pub returns-clause-done : goal.returns-clause-done
returns-clause-done c =
    done_rested (design_of c.args.plan.now) c.args.instance (rows_of c.args.machine.now) (rows_of c.capture_turn-answer.new.machine) (rows_of c.rest.new.machine) (group_driving c.args.group) (capture_does c.args.group c.args.cell) c.args.budget c.capture_turn-answer.result
    (listed_in c.as_slice.result.now) (λ path k number off. sym (ap (λ xs. listed_in xs k) c.as_slice.ensures.value ∙ (c.requires.row path number).cells k) ∙ off)
    (λ path s. c.idle_settles.ensures (instance_at (tree_of (design_of c.args.plan.now)) path) s (rows_at (tree_of (design_of c.args.plan.now)) path (c.designs_keep_idle.ensures (design_of c.args.plan.now))))
    c.capture_turn-answer.ensures.paused c.rest.ensures.rested
