use Rattle.cx_eval_drives.proofs.DriverLemmas.{pushed}
use Rattle.cx_eval_drives.proofs.driving.add.Goals as goal

pub returns : goal.returns
returns c = record {
  value = pushed c.args.ports.now.items c.args.port c.index_mut.result.now c.push.new.self c.args.owned c.requires.within c.index_mut.ensures.value c.in_ok-push.ensures.items;
}
