use Rattle.cx_turns.specs.Groups.{group_driving}
use Rattle.cx_turns.specs.Machines.{design_of, rows_of}
use Rattle.cx_interp.proofs.CaptureLemmas.{after_captures, after_idle}
use Rattle.cx_interp.proofs.captures.after_child.Goals as goal

pub returns-then-row-clause-done : goal.returns-then-row-clause-done
returns-then-row-clause-done c =
    after_captures (design_of c.args.plan.now) c.args.instance c.args.group c.args.cell c.args.row.now c.requires.row c.requires.callee (rows_of c.args.machine.now) (rows_of c.capture.new.machine) c.args.budget c.capture.result c.if-row.true
    c.capture.ensures.done

pub returns-else-row-clause-done : goal.returns-else-row-clause-done
returns-else-row-clause-done c =
    after_idle (design_of c.args.plan.now) c.args.instance c.args.group c.args.cell c.args.row.now c.requires.row c.requires.callee (rows_of c.args.machine.now) (rows_of c.args.machine.now) c.args.budget c.idle_turn.result c.if-row.false
    (c.idle_turn.ensures (design_of c.args.plan.now) (rows_of c.args.machine.now) c.args.instance (group_driving c.args.group) c.requires.machine.state)
