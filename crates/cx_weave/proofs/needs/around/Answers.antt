use Rattle.cx_weave.specs.Takes as takes
use Rattle.cx_weave.proofs.NeedSteps.{covers_self}
use Rattle.cx_weave.proofs.needs.around.Goals as goal

pub returns : goal.returns
returns c n covers = c.sum_of.ensures (takes.box_takes c.args.piece) n (covers_self c.box_takes.result (takes.box_takes c.args.piece) c.box_takes.ensures) covers
