use Rattle.cx_vnets.proofs.FlatValues.{net_there}
use Rattle.cx_vnets.proofs.flat_laws.all_are_nets.Goals as goal

pub returns : goal.returns
returns c tree n f stands lt = let r = net_there tree n stands f lt in (r.0, r.1, record { name = r.2; stands_there = r.4; number = r.3 })
