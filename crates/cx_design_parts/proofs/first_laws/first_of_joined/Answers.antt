use Rattle.cx_design_parts.proofs.Lists.{first_append}
use Rattle.cx_design_parts.proofs.first_laws.first_of_joined.Goals as goal

pub returns : goal.returns
returns c = first_append
