use Rattle.std.proofs.Common.{length, ap, ◌∙◌}
use Rattle.cx_vnets.proofs.CurrentLemmas.{inputs_current}
use Rattle.cx_vnets.proofs.Ready.{inputs-keep, ready-edge}
use Rattle.cx_vnets.proofs.runs.set_inputs.Goals as goal

pub returns-clause-ready : goal.returns-clause-ready
returns-clause-ready c =
    let e = c.put_inputs.ensures in
    ready-edge c.args.machine.now c.args.stored.now c.put_inputs.new.stored c.args.bench.now c.put_inputs.new.bench
    (inputs-keep c.args.machine.now c.args.reset c.args.stored.now c.put_inputs.new.stored c.args.bench.now e.inputs c.requires.ready) e.marks e.stack (ap length e.writes ∙ c.requires.ready.writes) e.values c.requires.ready

pub returns-clause-current : goal.returns-clause-current
returns-clause-current c =
    let e = c.put_inputs.ensures in
    inputs_current c.args.machine.now c.args.stored.now c.put_inputs.new.stored c.args.bench.now c.put_inputs.new.bench c.requires.current e.values e.nonzero e.inputs.arrays e.tells
