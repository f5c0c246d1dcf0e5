use Rattle.cx_design_parts.proofs.Families.{breaks_of_stage}
use Rattle.cx_design_parts.proofs.first_laws.breaks_of_stage.Goals as goal

pub returns : goal.returns
returns c = breaks_of_stage
