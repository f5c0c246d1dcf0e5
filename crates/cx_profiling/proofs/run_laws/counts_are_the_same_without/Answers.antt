use Rattle.cx_profiling.proofs.BareCounts.{whole_tally_flat}
use Rattle.cx_profiling.proofs.run_laws.counts_are_the_same_without.Goals as goal

pub returns : goal.returns
returns c = λ d words n design flat. whole_tally_flat d design flat words n
