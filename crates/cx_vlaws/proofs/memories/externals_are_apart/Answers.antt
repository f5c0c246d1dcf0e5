use Rattle.cx_vlaws.proofs.MemoryLemmas.{externals_apart, same_place}
use Rattle.cx_vlaws.proofs.memories.externals_are_apart.Goals as goal

pub returns-clause-names : goal.returns-clause-names
returns-clause-names c source sound = (externals_apart source sound).0

pub returns-clause-instances : goal.returns-clause-instances
returns-clause-instances c source sound = (externals_apart source sound).1

pub returns-clause-numbers : goal.returns-clause-numbers
returns-clause-numbers c source j k i d e sound at at' found found' = same_place source sound j k i d e at at' found found'
