use Rattle.cx_graphs.proofs.EdgeLemmas.{set_with}
use Rattle.cx_graphs.proofs.edges.add_link.Goals as goal

pub returns-clause-value : goal.returns-clause-value
returns-clause-value c = set_with c.args.graph.now.items c.args.from c.args.to c.index_mut.result.now c.push.new.self c.requires.within c.index_mut.ensures.value c.in_ok-push.ensures.items
