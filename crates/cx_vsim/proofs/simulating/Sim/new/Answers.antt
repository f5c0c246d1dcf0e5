use Rattle.cx_vtree.specs.PlainSources.{plain_source}
use Rattle.cx_vsim.proofs.SimLemmas.{new_stands}
use Rattle.cx_vsim.proofs.simulating.Sim.new.Goals as goal

pub invariant_of-result : goal.invariant_of-result
invariant_of-result c = new_stands (plain_source c.args.source.now) c.in_ok-built.built c.in_ok-numbers.numbers c.in_ok-built.ensures c.in_ok-numbers.ensures
