use Rattle.cx_vlaws.proofs.EdgeLemmas.{edge_at_keeps}
use Rattle.cx_vlaws.proofs.edges.stores_are_of_arrays.Goals as goal

pub returns-clause-stores : goal.returns-clause-stores
returns-clause-stores c source i reset k s sound e = (edge_at_keeps source sound i reset).stores_are k s e

pub returns-clause-once : goal.returns-clause-once
returns-clause-once c source i reset sound = (edge_at_keeps source sound i reset).stores_once
