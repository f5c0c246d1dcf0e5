use Rattle.std.proofs.Common.{refl}
use Rattle.cx_state.proofs.StartLemmas.{held_is}
use Rattle.cx_state.proofs.states.State.hold.Goals as goal

pub returns : goal.returns
returns c = record {
  value = held_is c.args.self.now.instances.items c.args.instance c.args.input c.args.seen c.index_mut.result.now _ c.requires.instance c.index_mut.ensures.value refl;
}
