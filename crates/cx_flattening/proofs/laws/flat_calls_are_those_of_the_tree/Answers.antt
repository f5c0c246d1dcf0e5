use Rattle.cx_flattening.proofs.FlatCalls.{flat_call}
use Rattle.cx_flattening.proofs.laws.flat_calls_are_those_of_the_tree.Goals as goal

pub returns : goal.returns
returns c i flat child held g cell children others s z n its runs stands = flat_call i flat held g cell child its children others runs s z n stands
