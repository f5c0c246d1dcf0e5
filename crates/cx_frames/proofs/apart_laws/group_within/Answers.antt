use Rattle.cx_frames.proofs.RunLemmas.{drives_group}
use Rattle.cx_frames.proofs.apart_laws.group_within.Goals as goal

pub returns : goal.returns
returns c = λ part s g k stands driven. drives_group part s g k stands driven
