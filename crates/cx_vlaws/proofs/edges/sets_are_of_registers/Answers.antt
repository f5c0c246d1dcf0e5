use Rattle.cx_vlaws.proofs.EdgeLemmas.{edge_at_keeps}
use Rattle.cx_vlaws.proofs.edges.sets_are_of_registers.Goals as goal

pub returns-clause-sets : goal.returns-clause-sets
returns-clause-sets c source i reset k a sound e = (edge_at_keeps source sound i reset).sets_are k a e

pub returns-clause-once : goal.returns-clause-once
returns-clause-once c source i reset sound = (edge_at_keeps source sound i reset).sets_once
