use Rattle.cx_flattening.proofs.BareDesigns.{bare_forms}
use Rattle.cx_flattening.proofs.BareRuns.{main_same}
use Rattle.cx_flattening.proofs.laws.forms_mean_the_same_without.Goals as goal

pub returns : goal.returns
returns c d words n has flat = main_same d (bare_forms d has flat) words n
