use Rattle.cx_flattening.proofs.CallsKept.{keeps_calls, keeps_call_groups}
use Rattle.cx_flattening.proofs.laws.flat_designs_keep_calls.Goals as goal

pub returns-clause-calls : goal.returns-clause-calls
returns-clause-calls c d at place name design accepted undone breaks = keeps_calls d design accepted undone at place name breaks

pub returns-clause-call_groups : goal.returns-clause-call_groups
returns-clause-call_groups c d at place name design accepted undone breaks = keeps_call_groups d design accepted undone at place name breaks
