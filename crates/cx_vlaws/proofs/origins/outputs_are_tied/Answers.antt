use Rattle.cx_vlaws.proofs.Ties.{output_tied}
use Rattle.cx_vlaws.proofs.origins.outputs_are_tied.Goals as goal

pub returns : goal.returns
returns c source i k p port sound at other there output = output_tied source sound i p at other k port there output
