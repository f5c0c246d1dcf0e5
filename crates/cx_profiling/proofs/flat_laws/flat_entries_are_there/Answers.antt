use Rattle.cx_profiling.proofs.EntriesThere.{entry_is_there}
use Rattle.cx_profiling.proofs.FlatCountings.{run_entry_there}
use Rattle.cx_profiling.proofs.FlatEntriesThere.{flat_entry_there}
use Rattle.cx_profiling.proofs.flat_laws.flat_entries_are_there.Goals as goal

pub returns-clause-groups : goal.returns-clause-groups
returns-clause-groups c d path g e design there inside = flat_entry_there d (c.flat_trees_are_flattened.ensures.cells d design) path g there e inside

pub returns-clause-runs : goal.returns-clause-runs
returns-clause-runs c d e f design known inside =
    run_entry_there d design e.path e.group (entry_is_there d e known) f inside (flat_entry_there d (c.flat_trees_are_flattened.ensures.cells d design) e.path e.group (entry_is_there d e known) f inside)
