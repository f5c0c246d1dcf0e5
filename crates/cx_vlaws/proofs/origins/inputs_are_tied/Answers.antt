use Rattle.cx_vlaws.proofs.Ties.{input_tied}
use Rattle.cx_vlaws.proofs.origins.inputs_are_tied.Goals as goal

pub returns : goal.returns
returns c source i k p port sound at other there input = input_tied source sound i p at other k port there input
