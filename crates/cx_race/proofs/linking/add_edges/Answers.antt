use Rattle.cx_race.proofs.LinkLemmas.{edges_set}
use Rattle.cx_race.proofs.linking.add_edges.Goals as goal

pub returns-clause-value : goal.returns-clause-value
returns-clause-value c =
    edges_set c.args.graph.now.items c.args.node c.index_mut.result.now c.extend_from_slice.new.self c.args.targets.now c.requires.within c.index_mut.ensures.value c.in_ok-extend_from_slice.ensures.items
