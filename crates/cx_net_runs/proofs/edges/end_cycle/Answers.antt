use Rattle.std.proofs.Common.{length, ap, ◌∙◌}
use Rattle.cx_vnets.proofs.Ready.{ready-edge, ready-resets, ready-sets}
use Rattle.cx_net_runs.proofs.edges.end_cycle.Goals as goal

pub reset_edge-requires-clause-sets : goal.reset_edge-requires-clause-sets
reset_edge-requires-clause-sets c = ready-resets c.args.machine.now c.args.stored.now c.args.bench.now c.requires.ready

pub edge-requires-clause-sets : goal.edge-requires-clause-sets
edge-requires-clause-sets c = ready-sets c.args.machine.now c.args.stored.now c.args.bench.now c.requires.ready

pub returns-then-reset-clause-ready : goal.returns-then-reset-clause-ready
returns-then-reset-clause-ready c =
    let e = c.reset_edge.ensures in
    ready-edge c.args.machine.now c.args.stored.now c.reset_edge.new.stored c.args.bench.now c.reset_edge.new.bench e.widths e.marks e.stack (ap length e.writes ∙ c.requires.ready.writes) e.values c.requires.ready

pub returns-else-reset-clause-ready : goal.returns-else-reset-clause-ready
returns-else-reset-clause-ready c =
    let e = c.edge.ensures in
    ready-edge c.args.machine.now c.args.stored.now c.edge.new.stored c.args.bench.now c.edge.new.bench e.widths e.marks e.stack e.writes e.values c.requires.ready
