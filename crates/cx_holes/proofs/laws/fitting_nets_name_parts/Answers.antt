use Rattle.cx_holes.proofs.FitNames.{fit_names}
use Rattle.cx_holes.proofs.laws.fitting_nets_name_parts.Goals as goal

pub returns : goal.returns
returns c = fit_names
