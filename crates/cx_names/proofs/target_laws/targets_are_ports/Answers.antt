use Rattle.cx_names.proofs.TargetLemmas.{targets_in_text}
use Rattle.cx_names.proofs.target_laws.targets_are_ports.Goals as goal

pub returns : goal.returns
returns c = targets_in_text
