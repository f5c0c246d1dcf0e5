use Rattle.cx_profiling.proofs.EntriesThere.{entry_is_there}
use Rattle.cx_profiling.proofs.FlatCountings.{flat_counts, run_counts}
use Rattle.cx_profiling.proofs.flat_laws.flat_designs_count_the_same.Goals as goal

pub returns-clause-groups : goal.returns-clause-groups
returns-clause-groups c d words n path g design accepted undone there =
    flat_counts d design accepted undone words (c.flat_trees_are_flattened.ensures.starts d words design) n path g there

pub returns-clause-runs : goal.returns-clause-runs
returns-clause-runs c d words n path g design accepted undone there =
    run_counts d design accepted undone words (c.flat_trees_are_flattened.ensures.starts d words design) n path g there

pub returns-clause-entries : goal.returns-clause-entries
returns-clause-entries c d words n e design accepted undone inside =
    run_counts d design accepted undone words (c.flat_trees_are_flattened.ensures.starts d words design) n e.path e.group (entry_is_there d e inside)
