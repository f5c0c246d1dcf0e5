use Rattle.cx_vlaws.proofs.Ties.{input_outside}
use Rattle.cx_vlaws.proofs.origins.inputs_of_main_are_outside.Goals as goal

pub returns : goal.returns
returns c source k port sound there input = input_outside source sound k port there input
