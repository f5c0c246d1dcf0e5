use Rattle.cx_compiler.proofs.OneSource as lemmas
use Rattle.cx_compiler.proofs.laws.one_source.Goals as goal

pub returns : goal.returns
returns c = lemmas.one_source_of
