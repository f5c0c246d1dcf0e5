use Rattle.cx_profiling.proofs.TallyWithin.{entry_within}
use Rattle.cx_profiling.proofs.run_laws.counts_are_within_turns.Goals as goal

pub returns : goal.returns
returns c = entry_within
