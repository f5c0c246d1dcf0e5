use Rattle.std.proofs.Common.{length}
use Rattle.cx_meaning.proofs.IdleLemmas.{kept_within}
use Rattle.cx_meaning.proofs.laws.designs_keep_idle.Goals as goal

pub returns : goal.returns
returns c = λ d. kept_within d (length d.components) d.main
