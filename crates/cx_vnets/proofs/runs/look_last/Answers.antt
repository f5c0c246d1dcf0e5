use Rattle.cx_vnets.proofs.Ready.{looked-ends, looked-spent}
use Rattle.cx_vnets.proofs.runs.look_last.Goals as goal

pub returns-in-Some : goal.returns-in-Some
returns-in-Some c = looked-ends c.args.machine.now c.args.stored.now c.args.cycle 0 c.look.new.bench.values.items c.in-Some.answer c.in-Some.ensures.value

pub returns-in-None : goal.returns-in-None
returns-in-None c = looked-spent c.args.machine.now c.args.stored.now c.args.cycle c.look.new.bench.values.items c.in-None.ensures.value
