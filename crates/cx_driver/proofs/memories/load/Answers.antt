use Rattle.cx_compiler.proofs.Once.{or_memory}
use Rattle.cx_driver.proofs.memories.load.Goals as goal

pub returns-in-Err-clause-cause : goal.returns-in-Err-clause-cause
returns-in-Err-clause-cause c = or_memory c.of_load.result c.of_load.ensures (λ told. (c.in-Err.fault, c.in-Err.ensures.fault told.0, told.1))
