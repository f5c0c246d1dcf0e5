use Rattle.std.proofs.Common.{◌≡◌, length, subst, arith}
use Rattle.cx_vsim.specs.Nets.{IsLastBegun}
use Rattle.cx_vsim.proofs.Finding.{last_is_it}
use Rattle.cx_vtree.proofs.InstanceTreeLemmas.{net_within}
use Rattle.cx_vsim.proofs.nets.instance_of.Goals as goal

pub returns : goal.returns
returns c = λ tree i k places is.
    let all : c.loop-i.i ≡ length c.args.places.now = omega (arith, c.loop-i-test.false) in
    last_is_it tree c.args.net i k is c.args.places.now c.loop-i.found (subst (λ n. IsLastBegun c.args.places.now c.args.net n c.loop-i.found) all c.loop-i.invariant)
    (net_within tree i k is.name is.stands_there) places
