use Rattle.std.proofs.Common.{arith}
use Rattle.std.proofs.lemmas.Grind.{common_steps}
use Rattle.cx_vnets.proofs.Steps.{f_values, one_ready}
use Rattle.cx_vnets.proofs.search.try_net.Goals as goal

pub offset_bounds-values-net : goal.offset_bounds-values-net
offset_bounds-values-net c = let l = f_values _ _ c.requires.fits _ _ c.requires.ready c.args.net c.requires.within in grind (arith, common_steps)

pub bounds-values-net : goal.bounds-values-net
bounds-values-net c = f_values _ _ c.requires.fits _ _ c.requires.ready c.args.net c.requires.within

pub returns-in-Worth : goal.returns-in-Worth
returns-in-Worth c = one_ready _ _ c.requires.fits _ _ c.requires.ready c.args.net c.requires.within c.in-Worth.value c.in-Worth.ensures
