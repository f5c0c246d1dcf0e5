use Rattle.cx_shape_rules.proofs.ShapeLemmas.{are_breaks}
use Rattle.cx_shape_rules.proofs.laws.shape_breaks_are.Goals as goal

pub returns : goal.returns
returns c = are_breaks
