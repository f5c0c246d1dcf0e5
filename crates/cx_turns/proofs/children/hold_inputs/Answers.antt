use Rattle.std.proofs.Common.{◌<◌, length, arith}
use Rattle.cx_turns.specs.Machines.{design_of, rows_of}
use Rattle.cx_turns.proofs.HoldLemmas.{child_counted, part_inputs, input_of, first_begin, first_next, all_held}
use Rattle.cx_turns.proofs.children.hold_inputs.Goals as goal

pub instance_part-requires-clause-instance : goal.instance_part-requires-clause-instance
instance_part-requires-clause-instance c = child_counted (design_of c.args.plan.now) c.args.instance c.args.cell c.args.child c.requires.instance c.requires.child

pub loop-input-init : goal.loop-input-init
loop-input-init c = (c.requires.machine, first_begin (design_of c.args.plan.now) (rows_of c.args.machine.now) (rows_of c.args.machine.now) c.args.instance c.args.group c.args.cell c.args.child 0 c.requires.child)

pub hold_input-requires-clause-input : goal.hold_input-requires-clause-input
hold_input-requires-clause-input c =
    let lt : c.loop-input.input < length c.instance_part.result.now.inputs.items = omega arith in
    input_of (design_of c.args.plan.now) c.args.child c.loop-input.input c.instance_part.result.now c.instance_part.ensures lt

pub loop-input-preserved : goal.loop-input-preserved
loop-input-preserved c = (
  c.hold_input.ensures.machine,
  first_next (design_of c.args.plan.now) (rows_of c.args.machine.now) (rows_of c.loop-input.machine) c.args.instance c.args.group c.args.cell c.args.child c.loop-input.input c.requires.child (rows_of c.hold_input.new.machine)
      c.loop-input.invariant.1 c.hold_input.ensures.held,
)

pub returns-clause-machine : goal.returns-clause-machine
returns-clause-machine c = c.loop-input.invariant.0

pub returns-clause-held : goal.returns-clause-held
returns-clause-held c =
    all_held (design_of c.args.plan.now) (rows_of c.args.machine.now) (rows_of c.loop-input.machine) c.args.instance c.args.group c.args.cell c.args.child c.loop-input.input c.requires.child (length c.instance_part.result.now.inputs.items)
    (omega arith) c.loop-input.invariant.1 (part_inputs (design_of c.args.plan.now) c.args.child c.instance_part.result.now c.instance_part.ensures)
