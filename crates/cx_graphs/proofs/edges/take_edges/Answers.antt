use Rattle.std.proofs.Common.{ap, ◌∙◌}
use Rattle.cx_graphs.proofs.EdgeLemmas.{targets_are, set_without}
use Rattle.cx_graphs.proofs.edges.take_edges.Goals as goal

pub returns-clause-taken : goal.returns-clause-taken
returns-clause-taken c = ap (λ v. v.items) c.replace.ensures.value ∙ targets_are c.args.graph.now.items c.args.from c.index_mut.result.now c.requires.within c.index_mut.ensures.value

pub returns-clause-left : goal.returns-clause-left
returns-clause-left c = set_without c.args.graph.now.items c.args.from c.replace.new.dest (ap (λ v. v.items) c.replace.ensures.after ∙ c.new.ensures.items)
