use Rattle.cx_sharing.proofs.AcceptedShared.{shared_accepted}
use Rattle.cx_sharing.proofs.accepted_laws.shared_design_is_accepted.Goals as goal

pub returns : goal.returns
returns c = λ d design accepted. shared_accepted d design accepted
