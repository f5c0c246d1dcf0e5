use Rattle.cx_compiler.proofs.RunnableLemmas.{runnable_flat, without_static}
use Rattle.cx_compiler.proofs.flat_laws.what_is_run_is_flat.Goals as goal

pub returns-clause-flat : goal.returns-clause-flat
returns-clause-flat c = runnable_flat (c.flat_designs_are_flat.ensures.flat)

pub returns-clause-itself : goal.returns-clause-itself
returns-clause-itself c = without_static
