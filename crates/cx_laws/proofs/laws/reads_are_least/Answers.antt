use Rattle.std.proofs.Common.{◌≡◌, true}
use Rattle.cx_laws.proofs.ReadsLemmas.{reads_least}
use Rattle.cx_laws.proofs.laws.reads_are_least.Goals as goal

pub returns : goal.returns
returns c = λ part s set k closed reads. reads_least part s (λ e. set e ≡ true) closed reads
