use Rattle.cx_frames.proofs.ArmLemmas.{all_ran, listed_ran, empty_ran, empty_waits}
use Rattle.cx_frames.proofs.arm_laws.whole_par.Goals as goal

pub returns-clause-arms : goal.returns-clause-arms
returns-clause-arms c i held arms place first rest s after n o some ran = all_ran i held arms place first rest s after n o some ran

pub returns-clause-none : goal.returns-clause-none
returns-clause-none c i held place s n settled = empty_ran i held place s n settled

pub returns-clause-waits : goal.returns-clause-waits
returns-clause-waits c i held place s settled = empty_waits i held place s settled

pub returns-clause-listed : goal.returns-clause-listed
returns-clause-listed c i held list place s after n o some ran = listed_ran i held list place s after n o some ran
