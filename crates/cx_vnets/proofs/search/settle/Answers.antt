use Rattle.std.proofs.Common.{◌<◌, length, arith}
use Rattle.cx_vnets.proofs.Steps.{all_known, first_without}
use Rattle.cx_vnets.proofs.search.settle.Goals as goal

pub returns-then-not-visit-clause-value : goal.returns-then-not-visit-clause-value
returns-then-not-visit-clause-value c =
    let lt : c.loop-root.root < length c.args.nets.now.drivers.items = omega arith in
    first_without c.args.nets.now c.args.stored.now c.requires.fits _ _ _ c.loop-root.invariant.ready c.loop-root.invariant.found lt c.if-not-visit.ensures.visited.1

pub returns-clause-known : goal.returns-clause-known
returns-clause-known c =
    all_known c.args.nets.now c.args.stored.now c.requires.fits c.loop-root.marks c.loop-root.values c.loop-root.invariant.ready
    (λ f lt. let within : f < c.loop-root.root = omega arith in c.loop-root.invariant.found f within)
