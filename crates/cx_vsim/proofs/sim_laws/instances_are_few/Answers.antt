use Rattle.std.proofs.Common.{◌≤◌, length, arith}
use Rattle.cx_vtree.specs.InstanceTree.{instances_of}
use Rattle.cx_vsim.proofs.sim_laws.instances_are_few.Goals as goal

pub returns : goal.returns
returns c = λ s sound. let most : length (instances_of s) ≤ 131072 = c.counts_are_bounded.ensures.instances s sound in omega (arith, most)
