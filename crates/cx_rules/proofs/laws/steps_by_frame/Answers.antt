use Rattle.cx_rules.proofs.FrameLemmas.{steps_alike}
use Rattle.cx_rules.proofs.laws.steps_by_frame.Goals as goal

pub returns : goal.returns
returns c = λ i held other_held act other s t set k row frame one two deeper inside. steps_alike i held other_held act other s t set frame one two deeper k row inside
