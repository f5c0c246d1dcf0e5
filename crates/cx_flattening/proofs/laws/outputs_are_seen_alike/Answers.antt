use Rattle.cx_flattening.proofs.FlatOutputs.{outputs_seen}
use Rattle.cx_flattening.proofs.laws.outputs_are_seen_alike.Goals as goal

pub returns : goal.returns
returns c i fair = outputs_seen i fair
