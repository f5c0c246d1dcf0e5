use Rattle.cx_frames.proofs.ArmLemmas.{none_ran}
use Rattle.cx_frames.proofs.arm_laws.stay.Goals as goal

pub returns : goal.returns
returns c i held s n settled = none_ran i held s n settled
