use Rattle.std.proofs.Common.{true, false, length, ap, ◌∙◌}
use Rattle.cx_vnets.specs.Runs.{loops_in_reset, after_reset}
use Rattle.cx_vnets.proofs.CurrentLemmas.{current_moved}
use Rattle.cx_vnets.proofs.Ready.{inputs-keep, keeps-more, ready-edge, ready-resets}
use Rattle.cx_vnets.proofs.runs.run.Goals as goal

pub returns-in-Some : goal.returns-in-Some
returns-in-Some c = record {
  value = loops_in_reset c.set_inputs.new.stored c.set_inputs.ensures.inputs c.in-Some.ensures.value;
  widths = inputs-keep c.args.machine.now true c.args.stored.now c.set_inputs.new.stored c.mark_nets.new.bench c.set_inputs.ensures.inputs c.mark_nets.ensures.ready;
}

pub reset_edge-requires-clause-sets : goal.reset_edge-requires-clause-sets
reset_edge-requires-clause-sets c = ready-resets c.args.machine.now c.set_inputs.new.stored c.values.new.bench c.in_default.ensures.ready

pub set_inputs-requires-2 : goal.set_inputs-requires-2
set_inputs-requires-2 c =
    let e = c.reset_edge.ensures in
    record {
      ready = ready-edge c.args.machine.now c.set_inputs.new.stored c.reset_edge.new.stored c.values.new.bench c.reset_edge.new.bench e.widths e.marks e.stack (ap length e.writes ∙ c.in_default.ensures.ready.writes) e.values
          c.in_default.ensures.ready;
      current = current_moved c.args.machine.now c.set_inputs.new.stored c.reset_edge.new.stored c.values.new.bench c.reset_edge.new.bench c.in_default.ensures.current e.values e.nonzero e.tells;
    }

pub returns : goal.returns
returns c =
    let e = c.reset_edge.ensures in
    let first = inputs-keep c.args.machine.now true c.args.stored.now c.set_inputs.new.stored c.mark_nets.new.bench c.set_inputs.ensures.inputs c.mark_nets.ensures.ready in
    let ready = ready-edge c.args.machine.now c.set_inputs.new.stored c.reset_edge.new.stored c.values.new.bench c.reset_edge.new.bench e.widths e.marks e.stack (ap length e.writes ∙ c.in_default.ensures.ready.writes) e.values
    c.in_default.ensures.ready in
    let second = inputs-keep c.args.machine.now false c.reset_edge.new.stored c.set_inputs-2.new.stored c.reset_edge.new.bench c.set_inputs-2.ensures.inputs ready in
    record {
      value = after_reset c.set_inputs.new.stored c.reset_edge.new.stored c.set_inputs-2.new.stored c.values.new.bench.values.items c.set_inputs.ensures.inputs c.in_default.ensures.value
          c.reset_edge.ensures.after c.set_inputs-2.ensures.inputs c.run_on.ensures.value;
      widths = keeps-more c.args.stored.now c.set_inputs.new.stored c.run_on.new.stored first
          (keeps-more c.set_inputs.new.stored c.reset_edge.new.stored c.run_on.new.stored c.reset_edge.ensures.widths
          (keeps-more c.reset_edge.new.stored c.set_inputs-2.new.stored c.run_on.new.stored second c.run_on.ensures.widths));
    }
