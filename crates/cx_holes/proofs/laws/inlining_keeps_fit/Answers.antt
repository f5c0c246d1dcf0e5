use Rattle.cx_holes.proofs.RenamedFits.{inlined_fits}
use Rattle.cx_holes.proofs.laws.inlining_keeps_fit.Goals as goal

pub returns : goal.returns
returns c = inlined_fits
