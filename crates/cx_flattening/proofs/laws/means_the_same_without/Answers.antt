use Rattle.cx_flattening.proofs.BareDesigns.{bare_design}
use Rattle.cx_flattening.proofs.BareRuns.{main_same}
use Rattle.cx_flattening.proofs.laws.means_the_same_without.Goals as goal

pub returns : goal.returns
returns c d words n design flat = main_same d (bare_design d design flat) words n
