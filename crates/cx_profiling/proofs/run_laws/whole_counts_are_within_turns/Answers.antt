use Rattle.cx_profiling.proofs.WholeTallies.{whole_entry_within}
use Rattle.cx_profiling.proofs.run_laws.whole_counts_are_within_turns.Goals as goal

pub returns : goal.returns
returns c = λ d design accepted undone. whole_entry_within d design accepted undone
