use Rattle.cx_vnets.proofs.Ready.{ready-keeps}
use Rattle.cx_vnets.proofs.run_laws.machines_stay_ready.Goals as goal

pub returns : goal.returns
returns c = ready-keeps
