use Rattle.std.proofs.Common.{rules}
use Rattle.cx_graphs.proofs.SearchLemmas.{begins_at}
use Rattle.cx_graphs.proofs.grounding.begin.Goals as goal

pub returns : goal.returns
returns c = record { way = λ g all same few each. begins_at g c.args.nodes all _ _ _ _ same few each (search rules) (search rules) c.in_ok-no_edges.ensures.value c.new.ensures.items }
