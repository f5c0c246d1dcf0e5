use Rattle.cx_vnets.proofs.Along.{sets-along}
use Rattle.cx_vnets.proofs.run_edges.set_all.Goals as goal

pub set_registers-requires-clause-fits : goal.set_registers-requires-clause-fits
set_registers-requires-clause-fits c = sets-along _ _ _ _ _ _ _ _ c.deref.ensures.value c.deref-3.ensures.value c.deref-4.ensures.value c.deref-2.ensures.value c.requires.sets
