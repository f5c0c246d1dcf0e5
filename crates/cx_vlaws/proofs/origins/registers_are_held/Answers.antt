use Rattle.cx_vlaws.proofs.Ties.{register_held}
use Rattle.cx_vlaws.proofs.origins.registers_are_held.Goals as goal

pub returns : goal.returns
returns c source i w n sound is = register_held source sound i n w is
