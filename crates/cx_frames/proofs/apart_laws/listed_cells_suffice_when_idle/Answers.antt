use Rattle.cx_frames.proofs.CycleLemmas.{idle_listed}
use Rattle.cx_frames.proofs.apart_laws.listed_cells_suffice_when_idle.Goals as goal

pub returns : goal.returns
returns c = λ i s listed path settled. idle_listed i s listed settled path
