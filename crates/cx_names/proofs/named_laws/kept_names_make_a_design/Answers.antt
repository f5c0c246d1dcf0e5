use Rattle.cx_names.proofs.Whole.{is_design}
use Rattle.cx_names.proofs.named_laws.kept_names_make_a_design.Goals as goal

pub returns : goal.returns
returns c = is_design
