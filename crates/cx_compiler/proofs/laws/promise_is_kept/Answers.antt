use Rattle.cx_compiler.proofs.PromiseLemmas as lemmas
use Rattle.cx_compiler.proofs.laws.promise_is_kept.Goals as goal

pub returns : goal.returns
returns c = lemmas.promise_is_kept
