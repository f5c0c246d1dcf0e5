use Rattle.std.proofs.Common.{refl, ap, ◌∙◌, slice_set}
use Rattle.cx_vnets.specs.Runs.{bit}
use Rattle.cx_net_runs.proofs.ReadyLemmas.{inputs_ready}
use Rattle.cx_net_runs.proofs.edges.set_inputs.Goals as goal

pub returns-clause-ready : goal.returns-clause-ready
returns-clause-ready c =
    inputs_ready c.args.machine.now c.args.reset c.args.go c.args.stored.now _ c.args.bench.now
    (record {
      nets = ap (λ x. slice_set (slice_set c.args.stored.now.nets.items c.args.machine.now.reset x) c.args.machine.now.go c.bit_of-2.result) c.bit_of.ensures
          ∙ ap (slice_set (slice_set c.args.stored.now.nets.items c.args.machine.now.reset (bit c.args.reset)) c.args.machine.now.go) c.bit_of-2.ensures;
      arrays = refl;
    })
    c.requires.ready
