use Rattle.std.proofs.Common.{◌≡◌, ◌+◌, ◌-◌, arith}
use Rattle.cx_vnets.specs.Runs.{outcome_of}
use Rattle.cx_vnets.proofs.CurrentLemmas.{current_moved}
use Rattle.cx_vnets.proofs.Ready.{keeps-more, ready-edge, ready-sets, ready-stores, looked-ends, goes-more}
use Rattle.cx_vnets.proofs.runs.run_on.Goals as goal

pub returns-in-Some : goal.returns-in-Some
returns-in-Some c = record {
  value = c.loop-cycle.invariant.so_far (outcome_of c.in-Some.answer c.loop-cycle.stored)
      (looked-ends c.args.machine.now c.loop-cycle.stored c.loop-cycle.cycle (c.args.cycles - c.loop-cycle.cycle) c.look.new.bench.values.items c.in-Some.answer c.in-Some.ensures.value);
  widths = c.loop-cycle.invariant.widths;
}

pub edge-requires-clause-sets : goal.edge-requires-clause-sets
edge-requires-clause-sets c = ready-sets c.args.machine.now c.loop-cycle.stored c.look.new.bench c.in_default.ensures.ready

pub edge-requires-clause-stores : goal.edge-requires-clause-stores
edge-requires-clause-stores c = ready-stores c.args.machine.now c.loop-cycle.stored c.look.new.bench c.in_default.ensures.ready

pub loop-cycle-preserved : goal.loop-cycle-preserved
loop-cycle-preserved c =
    let count : c.args.cycles - c.loop-cycle.cycle ≡ (c.args.cycles - (c.loop-cycle.cycle + 1)) + 1 = omega arith in
    record {
      widths = keeps-more c.args.stored.now c.loop-cycle.stored c.edge.new.stored c.loop-cycle.invariant.widths c.edge.ensures.widths;
      ready = ready-edge c.args.machine.now c.loop-cycle.stored c.edge.new.stored c.look.new.bench c.edge.new.bench c.edge.ensures.widths c.edge.ensures.marks c.edge.ensures.stack c.edge.ensures.writes
          c.edge.ensures.values c.in_default.ensures.ready;
      current = current_moved c.args.machine.now c.loop-cycle.stored c.edge.new.stored c.look.new.bench c.edge.new.bench c.in_default.ensures.current c.edge.ensures.values c.edge.ensures.nonzero c.edge.ensures.tells;
      so_far = λ o run. c.loop-cycle.invariant.so_far o
          (goes-more c.args.machine.now c.loop-cycle.stored c.edge.new.stored c.loop-cycle.cycle (c.args.cycles - c.loop-cycle.cycle) (c.args.cycles - (c.loop-cycle.cycle + 1)) c.look.new.bench.values.items o
          c.in_default.ensures.value c.edge.ensures.after count run);
    }
