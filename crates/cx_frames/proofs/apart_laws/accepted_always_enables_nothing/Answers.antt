use Rattle.cx_frames.proofs.EnableLemmas.{instance_bare}
use Rattle.cx_frames.proofs.apart_laws.accepted_always_enables_nothing.Goals as goal

pub returns : goal.returns
returns c = λ d path o accepted stands bare. instance_bare d accepted path o stands bare
