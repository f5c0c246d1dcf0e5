use Rattle.cx_vnets.proofs.ModuleWidths.{have_numbers}
use Rattle.cx_vnets.proofs.code_laws.names_have_numbers.Goals as goal

pub returns : goal.returns
returns c = have_numbers
