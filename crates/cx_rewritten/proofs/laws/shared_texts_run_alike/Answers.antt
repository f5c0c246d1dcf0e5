use Rattle.cx_rewritten.proofs.SharedLemmas.{shared_read}
use Rattle.cx_rewritten.proofs.AlikeLemmas.{shared_runs}
use Rattle.cx_rewritten.proofs.laws.shared_texts_run_alike.Goals as goal

pub returns-clause-read : goal.returns-clause-read
returns-clause-read c = shared_read

pub returns-clause-runs : goal.returns-clause-runs
returns-clause-runs c = shared_runs
