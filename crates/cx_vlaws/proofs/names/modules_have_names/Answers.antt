use Rattle.cx_vlaws.proofs.Forest.{same_modules}
use Rattle.cx_vlaws.proofs.names.modules_have_names.Goals as goal

pub returns : goal.returns
returns c = same_modules
