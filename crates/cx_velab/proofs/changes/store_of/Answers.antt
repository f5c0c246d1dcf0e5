use Rattle.cx_vnets.specs.Numberings.{arrays_by}
use Rattle.cx_velab.proofs.ChangeLemmas.{store_is}
use Rattle.cx_velab.proofs.changes.store_of.Goals as goal

pub returns : goal.returns
returns c = λ s e. store_is (arrays_by c.args.numbers.now) c.args.place c.args.array.now c.array.result c.args.code s c.array.ensures e
