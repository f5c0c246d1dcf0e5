use Rattle.cx_vnets.specs.Numberings.{nets_by}
use Rattle.cx_velab.proofs.ChangeLemmas.{set_is}
use Rattle.cx_velab.proofs.changes.set_of.Goals as goal

pub returns : goal.returns
returns c = λ a e. set_is (nets_by c.args.numbers.now) c.args.place c.args.name.now c.net.result c.args.code a c.net.ensures e
