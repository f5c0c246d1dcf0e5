use Rattle.cx_rewritten.proofs.ReadLemmas.{written_read}
use Rattle.cx_rewritten.proofs.written_laws.written_is_read.Goals as goal

pub returns : goal.returns
returns c = written_read
