use Rattle.cx_vread.proofs.HeldSources.{sound_held}
use Rattle.cx_vread.proofs.laws.sound_is_held.Goals as goal

pub returns : goal.returns
returns c s h = sound_held s h
