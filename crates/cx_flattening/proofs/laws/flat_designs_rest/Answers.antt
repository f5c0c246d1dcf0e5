use Rattle.cx_flattening.proofs.FlatRests.{keeps_done_states, keeps_static_tests, keeps_outputs}
use Rattle.cx_flattening.proofs.laws.flat_designs_rest.Goals as goal

pub returns-clause-done_states : goal.returns-clause-done_states
returns-clause-done_states c d at place name design accepted undone breaks = keeps_done_states d design accepted undone at place name breaks

pub returns-clause-tests : goal.returns-clause-tests
returns-clause-tests c d at place name design accepted undone breaks = keeps_static_tests d design accepted undone at place name breaks

pub returns-clause-outputs : goal.returns-clause-outputs
returns-clause-outputs c d at place name design accepted undone breaks = keeps_outputs d design accepted undone at place name breaks
